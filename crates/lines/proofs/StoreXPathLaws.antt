-- XPath at the store: a rule's path, as its line wrote it, and a command's path select what XPath selects, with the names of all that the user is for `$`. Assumes nothing.
use Prim.Native.Nat.{ℕ, ◌<◌}
use mathlib.Core.Path.{◌≡◌, refl, ap, ◌∙◌}
use mathlib.Core.Bool.{Bool, true, false, ◌&&◌}
use mathlib.Core.List.{List, [], ◌∷◌}
use lib.Dec.{eqb}
use lib.ListN.{get_or}
use Rattle.rights.specs.Isa.{is, NamesOf}
use Rattle.rights.specs.Path.{Test, Path, last, next, none, position, holds as bracket}
use Rattle.rights.specs.declared.path.Axis.{Axis}
use Rattle.rights.specs.Nodes.{Nodes}
use Rattle.rights.specs.Policy.{Right, bit_of, Rule, Policy}
use Rattle.rights.specs.Rights.{applies, last_says, holds, chains}
use Rattle.rights.specs.Held.{stored_nodes}
use Rattle.rights.specs.RuleXPath.{plain_path, steps_selected}
use Rattle.rights.specs.Table.{count, records, table_ok}
use Rattle.rights.specs.XPath.{xpath_selected, xpath_selection}
use Rattle.rights.proofs.OwnNames.{names_fixed}
use Rattle.rights.proofs.RuleXPathLaws.{applies_xpath, rights_xpath}
use Rattle.lines.specs.PolicyEdit.{bracketed, Plain, step_list, steps_in}
use Rattle.lines.specs.State.{user_of, policy_bytes, policy_in, store_ok}
use Rattle.lines.specs.UserView.{rights_in, view_in, marks_in}
use Rattle.lines.proofs.StateLaws.{store_held}
use Rattle.lines.proofs.StoredPaths.{never_both}

-- the steps of a path without brackets are that path
plain_steps : (p : Path) → bracketed p ≡ false → (w : Axis × Test) × (ws : List (Axis × Test)) × (step_list p ≡ w ∷ ws) × (plain_path w ws ≡ p)
unfolding bracketed step_list plain_path
plain_steps (last a x none) e = ((a, x), [], refl, refl)
plain_steps (last a x (position n bs)) e = never_both e
plain_steps (last a x (bracket p bs)) e = never_both e
plain_steps (next a x none p) e = let r = plain_steps p e in ((a, x), step_list p, refl, rw r.2 (ap (next a x none) r.3))
plain_steps (next a x (position n bs) p) e = never_both e
plain_steps (next a x (bracket q bs) p) e = never_both e

-- what a rule stores of its path's text selects what XPath selects by the text
pub stored_xpath : (s : List ℕ) → Plain s → (mine : List ℕ → Bool) (t : Nodes) (i : ℕ) → steps_selected (steps_in s) mine t i ≡ xpath_selected s mine t i
unfolding steps_selected steps_in xpath_selected
stored_xpath s x mine t i = let r = plain_steps x.path x.flat in rw (x.read, r.2, r.3)

-- "A rule applies to a subject that is its N, and to the nodes its path selects in the stored tree", for `$` with the names of all that the subject is, and with the
-- path as the rule's line wrote it. What an accepted line adds is such a rule (`rule_adds` in PolicyEdits).
pub written-applies : (s : List ℕ) → Plain s → (t : List ℕ) → table_ok t ≡ true → (P : Policy) (u : ℕ) (mine : List ℕ → Bool) → NamesOf P u mine
    → (r : Rule) → r.path ≡ steps_in s → (i : ℕ) → i < count t
    → applies P u (get_or (chains [] (records t)) i []) r ≡ is P u r.who && xpath_selected s mine (stored_nodes t) i
written-applies s x t ok P u mine names r e i h =
    applies_xpath t ok P u mine names r i h
    ∙ ap (λ (b : Bool). is P u r.who && b)
    (ap (λ (ws : List (Axis × Test)). steps_selected ws mine (stored_nodes t) i) e ∙ stored_xpath s x mine (stored_nodes t) i)

-- A store, and the names of all that its user is
module _ (s t : List ℕ) (mine : List ℕ → Bool) (names : NamesOf (policy_in s) (user_of s) mine) where
  -- the user's rights, where the store passes 13: "The last applicable rule for a right wins; with none, no right"
  pub user_rights_xpath : store_ok s t ≡ true → (w : Right) (i : ℕ) → i < count t
      → holds w (get_or (rights_in s t) i 0)
      ≡ last_says (λ r. eqb r.right (bit_of w) && (is (policy_in s) (user_of s) r.who && steps_selected r.path mine (stored_nodes t) i)) false (policy_in s).rules
  user_rights_xpath ok w i h = let g = store_held s t ok in rights_xpath t g.table (policy_bytes s) g.policy (user_of s) mine names w i h

  -- "Paths of E run on the view", where `$` passes a label "equal to the name of any subject that the user is"
  pub marks_xpath : (path : List ℕ) → marks_in s t path ≡ xpath_selection path mine (view_in s t)
  marks_xpath path = ap (λ (own : List ℕ → Bool). xpath_selection path own (view_in s t)) (names_fixed (policy_in s) (user_of s) mine names)
