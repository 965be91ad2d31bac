-- What a line does is what its command's clause says, for every form; a line that writes no command is refused. Assumes nothing.
use Prim.Native.Nat.{ℕ}
use mathlib.Core.Path.{◌≡◌, ap, fun_ext, ◌∙◌}
use mathlib.Core.Bool.{Bool, false, cond}
use mathlib.Core.List.{List}
use mathlib.Core.Logic.{◌⊎◌, inl, inr}
use native.Mathlib.Omega.{arith}
use borrow.Author.Tests.{ne_eqb}
use lib.ListN.{length}
use Rattle.rights.specs.Isa.{passes_own}
use Rattle.rights.specs.Marks.{each_from}
use Rattle.rights.specs.Nodes.{Nodes, node, level_at, label_at}
use Rattle.rights.specs.Path.{Path}
use Rattle.rights.specs.PathText.{write, Within}
use Rattle.rights.specs.XPath.{has, node_set, document, xpath_selected}
use Rattle.rights.proofs.ListLaws.{by_case}
use Rattle.rights.proofs.MarkLaws.{each-length}
use Rattle.rights.proofs.PathComplete.{complete}
use Rattle.forms.specs.declared.layout.Word.TheVariants as word
use Rattle.forms.specs.Text.{line_ok}
use Rattle.forms.specs.Layout.{letters}
use Rattle.forms.specs.Command.{Command, command, stage_for, written, GoodCommand}
use Rattle.forms.proofs.FormTextLaws.{word_law, none_written}
use Rattle.forms.proofs.CommandLaws.{written_read}
use Rattle.answers.specs.Answer.{none_line, hit_line}
use Rattle.answers.proofs.FindLaws.{FirstSet, NoneSet, first_or_none, first_found, none_found}
use Rattle.lines.specs.State.{store_ok, policy_in, user_of}
use Rattle.lines.specs.UserView.{view_in, marks_in, FirstSelected, NoneSelected}
use Rattle.lines.specs.Outcome.{refusal}
use Rattle.lines.specs.Refusal.{bad_store, bad_line, no_form, checked}
use Rattle.lines.specs.Effect.{guarded, performed}
use Rattle.store.specs.Line.{is_no_form, step}
use Rattle.lines.specs.Clause.{clause}
use Rattle.store.specs.Refusals.{front_checks}

-- the word of a good command has a stage
pub some-stage : (c : Command) → GoodCommand c → is_no_form (stage_for c) ≡ false
some-stage c g = (word_law c.word).staged ∙ ne_eqb (length (letters c.word)) 0 (λ e. omega (arith, g.word, e))

module _ (s t : List ℕ) (room : ℕ) where
  -- A line that writes a command does what the command's clause says on its values.
  pub step-written : (c : Command) → GoodCommand c → step s t (written c) room ≡ performed (guarded (front_checks c s t) (clause c s t)) room s t
  unfolding step performed checked
  step-written c g = rw (written_read c g, some-stage c g)

  -- Every other line is refused: 13 first, 1 if it is too long or has a byte outside 32 to 126, else 2.
  pub step_unwritten : (line : List ℕ) → ((c : Command) → GoodCommand c → line ≡ written c → ⊥)
      → step s t line room ≡ refusal (cond (store_ok s t) (cond (line_ok line) no_form bad_line) bad_store) s t
  unfolding step performed checked
  step_unwritten line h =
      rw ((none_written line).1 h)
      (by_case (store_ok s t) (λ a. by_case (line_ok line) (λ b. rw (a, b)) (λ b. rw (a, b))) (λ a. rw a))

-- What the path of a command selects: where it is written within the limits, XPath's own selection in the view, `$` being the login name.
path_selected : (p : Path) (mine : List ℕ → Bool) (ns : Nodes) (i : ℕ) → Within p → xpath_selected (write p) mine ns i ≡ has i (node_set p mine ns document)
unfolding xpath_selected
path_selected p mine ns i w = rw (complete p w)

pub written_marks : (s t : List ℕ) (p : Path) → Within p
    → marks_in s t (write p) ≡ each_from (λ i. has i (node_set p (passes_own (policy_in s) (user_of s)) (view_in s t) document)) 0 (length (view_in s t))
written_marks s t p w = ap (λ f. each_from f 0 (length (view_in s t))) (fun_ext (λ i. path_selected p (passes_own (policy_in s) (user_of s)) (view_in s t) i w))

-- `(find P)`: the answer, and so what 12 measures, is the line of the first selected node alone; `(none)` if nothing is selected. One of both is the case.
module _ (s t path : List ℕ) where
  mark_each : length (marks_in s t path) ≡ length (view_in s t)
  mark_each = each-length (xpath_selected path (passes_own (policy_in s) (user_of s)) (view_in s t)) 0 (length (view_in s t))

  pub find_clause : (k : ℕ) → FirstSelected s t path k → (clause (command word.Find (path, tt)) s t).text ≡ hit_line (node (level_at (view_in s t) k) (label_at (view_in s t) k))
  find_clause k f = first_found (marks_in s t path) (view_in s t) k mark_each (f.selected, f.none_before)

  pub find_clause_none : NoneSelected s t path → (clause (command word.Find (path, tt)) s t).text ≡ none_line
  find_clause_none none = none_found (marks_in s t path) (view_in s t) none

  pub first_selected : ((k : ℕ) × FirstSelected s t path k) ⊎ NoneSelected s t path
  first_selected = go (first_or_none (marks_in s t path))
    where
      go : ((k : ℕ) × FirstSet (marks_in s t path) k) ⊎ NoneSet (marks_in s t path) → ((k : ℕ) × FirstSelected s t path k) ⊎ NoneSelected s t path
      go (inl (k, f)) = inl (k, record { selected = f.0; none_before = f.1 })
      go (inr none) = inr none
