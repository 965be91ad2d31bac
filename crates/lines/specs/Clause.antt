-- What each form does (document 01, "Lines", "Changes", "What is written", "Who can be turned down"): its own checks, its answer and its effect on the state s
-- and the table t, one clause a form. A line that writes a command does what the command's clause says (store, law step-written); every other line is refused
-- (law step_unwritten).
use Rattle.std.specs.Prelude.{ℕ, true, List, [], ◌∷◌, length}
use Rattle.rights.specs.Marks.{bit}
use Rattle.rights.specs.Tree.{Tree, nodes_of}
pub use Rattle.rights.specs.Tree.{size_of}
use Rattle.views.specs.declared.done.Change.TheVariants as change
use Rattle.views.specs.declared.insert.Place.TheVariants as place
use Rattle.forms.specs.declared.layout.Word.{Word}
use Rattle.forms.specs.declared.layout.Word.TheVariants as word
use Rattle.forms.specs.Tree.{records_of}
use Rattle.forms.specs.Layout.{shape_of}
use Rattle.forms.specs.Form.{AllHeld, ReadForm}
use Rattle.forms.specs.Command.{Command, form_of}
use Rattle.lines.specs.Effect.{Work, reading}
use Rattle.lines.specs.Refusal.{check, no_form}
use Rattle.lines.specs.Work.{work_subject, work_isa, work_rule, work_root, work_child, work_user, work_view, work_ask, work_rename, work_insert, work_remove, work_sheet, work_day, work_window}
use Rattle.lines.specs.declared.queries.Ask.TheVariants as ask

-- the records of a tree, the root at level 0
abbrev pub tree_bytes : Tree → List ℕ
tree_bytes u = records_of (nodes_of 0 u)

abbrev pub work_by : (w : Word) → AllHeld (shape_of w) → List ℕ → List ℕ → Work
work_by word.Subject (n, tt) s t = work_subject s n
work_by word.Isa (n, (r, tt)) s t = work_isa s n r
work_by word.Rule (a, (r, (p, (n, tt)))) s t = work_rule s (bit a) r p n
work_by word.Root (l, tt) s t = work_root t l
work_by word.Child (ns, tt) s t = work_child t (length ns) (records_of ns)
work_by word.User (n, tt) s t = work_user s n
work_by word.View tt s t = work_view s t
work_by word.Query (p, tt) s t = work_ask ask.Query s t p
work_by word.Find (p, tt) s t = work_ask ask.Find s t p
work_by word.Rename (p, (l, tt)) s t = work_rename change.Rename s t p l
work_by word.Update (p, (l, tt)) s t = work_rename change.Update s t p l
work_by word.Append (p, (ns, tt)) s t = work_insert place.Append s t p (length ns) (records_of ns)
work_by word.Before (p, (ns, tt)) s t = work_insert place.Before s t p (length ns) (records_of ns)
work_by word.After (p, (ns, tt)) s t = work_insert place.After s t p (length ns) (records_of ns)
work_by word.Remove (p, tt) s t = work_remove s t p
work_by word.Sheet (l, tt) s t = work_sheet s t l
work_by word.Day (d, tt) s t = work_day d
work_by word.Window (p, (f, (l, tt))) s t = work_window s t p f l
-- "2 no form listed above"
work_by word.Other tt s t = record { checks = check no_form true ∷ []; text = []; effect = reading }

abbrev pub work_of : ReadForm → List ℕ → List ℕ → Work
work_of f s t = work_by f.word f.parts s t

abbrev pub clause : Command → List ℕ → List ℕ → Work
clause c s t = work_of (form_of c) s t
