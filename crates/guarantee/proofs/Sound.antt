-- What the effect of a line may lean on where the line is taken: the facts that its form and the checks that it passed give. Every law about a line that is taken
-- goes by its effect and these facts.
use Rattle.std.specs.Prelude as found
use Prim.Native.Nat.{ℕ, ◌+◌, ◌≤◌, ◌<◌}
use mathlib.Core.Path.{◌≡◌}
use mathlib.Core.Bool.{Bool, true, false, ◌||◌}
use mathlib.Core.List.{List}
use lib.Dec.{leb, eqb, ltb}
use lib.ListN.{length, get_or}
use Rattle.rights.specs.Policy.{Policy, policy_word}
use Rattle.rights.specs.PolicyBytes.{rule_count}
use Rattle.rights.specs.PolicyCheck.{policy_ok}
use Rattle.rights.specs.Table.{records, label, day_ok, window_ok}
use Rattle.views.specs.Change.{chunks, lower, deepest, too_deep, has_room, free}
use Rattle.views.specs.Nodes.{TreeOk, LabelOk}
use Rattle.views.specs.How.Pass.{AtDone}
use Rattle.views.specs.declared.insert.Place.{Place}
use Rattle.lines.specs.PolicyEdit.{subject_named}
use Rattle.lines.specs.State.{stage_b, stage_c, stage_e, stage, policy_in}
use Rattle.forms.specs.declared.layout.Word.TheVariants as word
use Rattle.forms.specs.Form.{ReadForm}
use Rattle.forms.specs.Command.{command, form_of}
use Rattle.lines.specs.Effect.{Effect, policy, root, insertion, renaming, removal, redating, login, dating, reading}

-- the label of a record is no policy word
abbrev pub NoWord : Policy → List ℕ → Type 0
NoWord P r = policy_word P (label r) ≡ false

-- a policy that passes, before the root line; a rule is held from stage B on
pub record PolicySound (s p : List ℕ) (g : ℕ) : Type 0 where
  pub early : stage s < stage_c
  pub before_root : g < stage_c
  pub ok : policy_ok p ≡ true
  pub rules : (eqb (rule_count p) 0 || leb stage_b g) ≡ true

pub record RootSound (s t l : List ℕ) : Type 0 where
  pub early : stage s < stage_c
  pub label : LabelOk l
  pub has_room : ltb (free t) 1 ≡ false

-- a tree that fits into the table; the root has no place beside it; stage E is neither reached nor left
pub record InsertSound (s t : List ℕ) (at : Place) (ms : List Bool) (m : ℕ) (tree : List ℕ) (g : ℕ) : Type 0 where
  pub rooted : stage_c ≤ stage s
  pub behind_root : stage_c ≤ g
  pub stages : g ≤ stage_e
  pub session : eqb g stage_e ≡ eqb (stage s) stage_e
  pub good : TreeOk (chunks m tree)
  pub shallow : too_deep (lower at + deepest (chunks m tree)) ms (records t) ≡ false
  pub has_room : has_room t ms m ≡ true
  pub spared : lower at ≡ 0 → get_or ms 0 false ≡ false

-- neither the new label nor an old one is a policy word
pub record RenameSound (s t l : List ℕ) (ms : List Bool) : Type 0 where
  pub rooted : stage_c ≤ stage s
  pub label : LabelOk l
  pub no_word : policy_word (policy_in s) l ≡ false
  pub no_words : AtDone (NoWord (policy_in s)) ms (records t)

-- `(remove P)` alone removes, and never the root
pub record RemoveSound (f : ReadForm) (s t : List ℕ) (ms : List Bool) : Type 0 where
  pub path : List ℕ
  pub form : f ≡ form_of (command word.Remove (path, tt))
  pub rooted : stage_c ≤ stage s
  pub spared : get_or ms 0 false ≡ false

-- a record of 32 bytes, its label of at most 24
abbrev pub Whole : List ℕ → Type 0
Whole r = (length r ≡ 32) × (get_or r 1 0 ≤ 24)

-- a window, never of the root
pub record RedateSound (s t : List ℕ) (f l : ℕ) (ms : List Bool) : Type 0 where
  pub rooted : stage_c ≤ stage s
  pub window : window_ok f l ≡ true
  pub spared : get_or ms 0 false ≡ false
  pub whole : AtDone Whole ms (records t)

-- a day of the year, the root line taken
pub record DaySound (s : List ℕ) (d : ℕ) : Type 0 where
  pub rooted : stage_c ≤ stage s
  pub day : day_ok d ≡ true

-- `(user N)` alone logs in, and N is declared
pub record LoginSound (f : ReadForm) (s : List ℕ) (u : ℕ) : Type 0 where
  pub name : List ℕ
  pub form : f ≡ form_of (command word.User (name, tt))
  pub named : subject_named (policy_in s) name ≡ found.Some u
  pub rooted : stage_c ≤ stage s

abbrev pub EffectSound : ReadForm → List ℕ → List ℕ → Effect → Type 0
EffectSound f s t (policy p g) = PolicySound s p g
EffectSound f s t (root l) = RootSound s t l
EffectSound f s t (insertion at ms m tree g) = InsertSound s t at ms m tree g
EffectSound f s t (renaming l ms) = RenameSound s t l ms
EffectSound f s t (removal ms) = RemoveSound f s t ms
EffectSound f s t (redating g l ms) = RedateSound s t g l ms
EffectSound f s t (login u) = LoginSound f s u
EffectSound f s t (dating d) = DaySound s d
EffectSound f s t reading = Unit {0}
