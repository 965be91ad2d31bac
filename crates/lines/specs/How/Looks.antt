-- What one function prints of the view: the view itself, or a sheet of it.
use Rattle.std.specs.Prelude.{ℕ, List}
use Rattle.rights.specs.Nodes.{Nodes}
use Rattle.answers.specs.Answer.{view_text}
use Rattle.answers.specs.Sheet.{sheet_text}
use Rattle.lines.specs.Effect.{Work, reading}
use Rattle.lines.specs.UserView.{view_in}
use Rattle.lines.specs.Work.{view_checks}
use Rattle.lines.specs.declared.queries.Look.{Look}
use Rattle.lines.specs.declared.queries.Look.TheVariants.{View, Sheet}

abbrev pub printed : Look → List ℕ → Nodes → List ℕ
printed View room t = view_text t
printed Sheet room t = sheet_text room t

abbrev pub work_look : Look → List ℕ → List ℕ → List ℕ → Work
work_look look s t room = record { checks = view_checks s; text = printed look room (view_in s t); effect = reading }
