-- Each arm: the form that was read has the arm's word, and the parts that the arm takes are those that are held of it.
use Prim.Native.Nat.{◌+◌}
use mathlib.Core.Path.{sym, ap, ◌∙◌}
use native.Mathlib.Omega.{arith}
use Rattle.forms.specs.Layout.{stage_of}
use Rattle.forms.specs.Form.{place_in}
use Rattle.forms.specs.How.Codes.{says_by}
use Rattle.forms.proofs.FormLaws.{right_small}
use Rattle.lines.specs.Effect.{performed}
use Rattle.lines.specs.Refusal.{checked}
use Rattle.lines.specs.State.{stage}
use Rattle.store.specs.Line.{in_stage}
use Rattle.store.proofs.LineLaws.{accept_bit, read_as, fits_as, says_as, tree_as, refused, label_short, tree_asks, tree_taken, tree_holds, root_stage}
use Rattle.store.proofs.line.run.Goals as goal

pub declare-requires : goal.declare-requires
declare-requires c =
    let told = c.in-Subject.is in
    (c.requires.0, label_short _ (fits_as c.requires.2 told).0 c.part_of.ensures)

pub root-requires : goal.root-requires
root-requires c =
    let told = c.in-Root.is in
    (c.requires.0, root_stage _ (ap (λ v. in_stage (stage_of v) (stage c.args.state.now)) (sym told) ∙ c.requires.3), label_short _ (fits_as c.requires.2 told).0 c.part_of-in-Root.ensures)

pub rename-requires : goal.rename-requires
rename-requires c =
    let told = c.in-Rename.is in
    (c.requires.0, label_short _ (fits_as c.requires.2 told).1.0 c.part_of-in-Rename-2.ensures)

pub rename-requires-in-Update : goal.rename-requires-in-Update
rename-requires-in-Update c =
    let told = c.in-Update.is in
    (c.requires.0, label_short _ (fits_as c.requires.2 told).1.0 c.part_of-in-Update-2.ensures)

pub overflow_cast-says : goal.overflow_cast-says
unfolding says_by
overflow_cast-says c =
    let told = c.in-Rule.is in
    omega (arith, says_as c.requires.2 told 1 (omega arith), right_small c.args.line.now (place_in c.args.f.ends 1 + 1))

pub tree_of-requires : goal.tree_of-requires
unfolding says_by
tree_of-requires c =
    let told = c.in-Child.is in
    tree_asks (fits_as c.requires.2 told).0 (says_as c.requires.2 told 0 (omega arith)) c.args.tree.now (tree_as c.requires.2 told c.args.tree.now c.requires.4) c.requires.1

pub tree_of-requires-in-Append : goal.tree_of-requires-in-Append
unfolding says_by
tree_of-requires-in-Append c =
    let told = c.in-Append.is in
    tree_asks (fits_as c.requires.2 told).1.0 (says_as c.requires.2 told 1 (omega arith)) c.args.tree.now (tree_as c.requires.2 told c.args.tree.now c.requires.4) c.requires.1

pub tree_of-requires-in-Before : goal.tree_of-requires-in-Before
unfolding says_by
tree_of-requires-in-Before c =
    let told = c.in-Before.is in
    tree_asks (fits_as c.requires.2 told).1.0 (says_as c.requires.2 told 1 (omega arith)) c.args.tree.now (tree_as c.requires.2 told c.args.tree.now c.requires.4) c.requires.1

pub tree_of-requires-in-After : goal.tree_of-requires-in-After
unfolding says_by
tree_of-requires-in-After c =
    let told = c.in-After.is in
    tree_asks (fits_as c.requires.2 told).1.0 (says_as c.requires.2 told 1 (omega arith)) c.args.tree.now (tree_as c.requires.2 told c.args.tree.now c.requires.4) c.requires.1

pub child-requires : goal.child-requires
unfolding says_by
child-requires c =
    let told = c.in-Child.is in
    let h = tree_holds (fits_as c.requires.2 told).0 (says_as c.requires.2 told 0 (omega arith)) c.args.tree.now (tree_as c.requires.2 told c.args.tree.now c.requires.4) c.requires.1 _ c.tree_of.ensures in
    (c.requires.0, h.0, h.1)

pub insert-requires : goal.insert-requires
unfolding says_by
insert-requires c =
    let told = c.in-Append.is in
    let h = tree_holds (fits_as c.requires.2 told).1.0 (says_as c.requires.2 told 1 (omega arith)) c.args.tree.now (tree_as c.requires.2 told c.args.tree.now c.requires.4) c.requires.1 _ c.tree_of-in-Append.ensures in
    (c.requires.0, h.0, h.1)

pub insert-requires-in-Before : goal.insert-requires-in-Before
unfolding says_by
insert-requires-in-Before c =
    let told = c.in-Before.is in
    let h = tree_holds (fits_as c.requires.2 told).1.0 (says_as c.requires.2 told 1 (omega arith)) c.args.tree.now (tree_as c.requires.2 told c.args.tree.now c.requires.4) c.requires.1 _ c.tree_of-in-Before.ensures in
    (c.requires.0, h.0, h.1)

pub insert-requires-in-After : goal.insert-requires-in-After
unfolding says_by
insert-requires-in-After c =
    let told = c.in-After.is in
    let h = tree_holds (fits_as c.requires.2 told).1.0 (says_as c.requires.2 told 1 (omega arith)) c.args.tree.now (tree_as c.requires.2 told c.args.tree.now c.requires.4) c.requires.1 _ c.tree_of-in-After.ensures in
    (c.requires.0, h.0, h.1)

pub returns-in-Other : goal.returns-in-Other
unfolding performed checked
returns-in-Other c =
    let told = c.in-Other.is in
    rw (read_as c.requires.2 told) refused

pub returns-in-Subject : goal.returns-in-Subject
returns-in-Subject c =
    let told = c.in-Subject.is in
    rw (read_as c.requires.2 told, ← c.part_of.ensures) c.declare.ensures

pub returns-in-Isa : goal.returns-in-Isa
returns-in-Isa c =
    let told = c.in-Isa.is in
    rw (read_as c.requires.2 told, ← c.part_of-in-Isa.ensures, ← c.part_of-in-Isa-2.ensures) c.relate.ensures

pub returns-in-Rule : goal.returns-in-Rule
unfolding says_by
returns-in-Rule c =
    let told = c.in-Rule.is in
    rw (read_as c.requires.2 told, ← (says_as c.requires.2 told 0 (omega arith)), ← (says_as c.requires.2 told 1 (omega arith)), ← accept_bit _ c.from.ensures, ← c.part_of-in-Rule.ensures, ← c.part_of-in-Rule-2.ensures) c.rule.ensures

pub returns-in-Root : goal.returns-in-Root
returns-in-Root c =
    let told = c.in-Root.is in
    rw (read_as c.requires.2 told, ← c.part_of-in-Root.ensures) c.root.ensures

pub returns-in-Child : goal.returns-in-Child
unfolding says_by
returns-in-Child c =
    let told = c.in-Child.is in
    rw (read_as c.requires.2 told, ← (says_as c.requires.2 told 0 (omega arith)), ← (tree_taken (fits_as c.requires.2 told).0 (says_as c.requires.2 told 0 (omega arith)) c.args.tree.now (tree_as c.requires.2 told c.args.tree.now c.requires.4) c.requires.1 _ c.tree_of.ensures)) c.child.ensures

pub returns-in-User : goal.returns-in-User
returns-in-User c =
    let told = c.in-User.is in
    rw (read_as c.requires.2 told, ← c.part_of-in-User.ensures) c.log_in.ensures

pub returns-in-View : goal.returns-in-View
returns-in-View c =
    let told = c.in-View.is in
    rw (read_as c.requires.2 told) c.view.ensures

pub returns-in-Query : goal.returns-in-Query
returns-in-Query c =
    let told = c.in-Query.is in
    rw (read_as c.requires.2 told, ← c.part_of-in-Query.ensures) c.ask_path.ensures

pub returns-in-Find : goal.returns-in-Find
returns-in-Find c =
    let told = c.in-Find.is in
    rw (read_as c.requires.2 told, ← c.part_of-in-Find.ensures) c.ask_path-in-Find.ensures

pub returns-in-Rename : goal.returns-in-Rename
returns-in-Rename c =
    let told = c.in-Rename.is in
    rw (read_as c.requires.2 told, ← c.part_of-in-Rename.ensures, ← c.part_of-in-Rename-2.ensures) c.rename.ensures

pub returns-in-Update : goal.returns-in-Update
returns-in-Update c =
    let told = c.in-Update.is in
    rw (read_as c.requires.2 told, ← c.part_of-in-Update.ensures, ← c.part_of-in-Update-2.ensures) c.rename-in-Update.ensures

pub returns-in-Append : goal.returns-in-Append
unfolding says_by
returns-in-Append c =
    let told = c.in-Append.is in
    rw (read_as c.requires.2 told, ← c.part_of-in-Append.ensures, ← (says_as c.requires.2 told 1 (omega arith)), ← (tree_taken (fits_as c.requires.2 told).1.0 (says_as c.requires.2 told 1 (omega arith)) c.args.tree.now (tree_as c.requires.2 told c.args.tree.now c.requires.4) c.requires.1 _ c.tree_of-in-Append.ensures)) c.insert.ensures

pub returns-in-Before : goal.returns-in-Before
unfolding says_by
returns-in-Before c =
    let told = c.in-Before.is in
    rw (read_as c.requires.2 told, ← c.part_of-in-Before.ensures, ← (says_as c.requires.2 told 1 (omega arith)), ← (tree_taken (fits_as c.requires.2 told).1.0 (says_as c.requires.2 told 1 (omega arith)) c.args.tree.now (tree_as c.requires.2 told c.args.tree.now c.requires.4) c.requires.1 _ c.tree_of-in-Before.ensures)) c.insert-in-Before.ensures

pub returns-in-After : goal.returns-in-After
unfolding says_by
returns-in-After c =
    let told = c.in-After.is in
    rw (read_as c.requires.2 told, ← c.part_of-in-After.ensures, ← (says_as c.requires.2 told 1 (omega arith)), ← (tree_taken (fits_as c.requires.2 told).1.0 (says_as c.requires.2 told 1 (omega arith)) c.args.tree.now (tree_as c.requires.2 told c.args.tree.now c.requires.4) c.requires.1 _ c.tree_of-in-After.ensures)) c.insert-in-After.ensures

pub returns-in-Remove : goal.returns-in-Remove
returns-in-Remove c =
    let told = c.in-Remove.is in
    rw (read_as c.requires.2 told, ← c.part_of-in-Remove.ensures) c.remove.ensures

pub returns-in-Sheet : goal.returns-in-Sheet
returns-in-Sheet c =
    let told = c.in-Sheet.is in
    rw (read_as c.requires.2 told, ← c.part_of-in-Sheet.ensures) c.sheet.ensures

pub returns-in-Day : goal.returns-in-Day
unfolding says_by
returns-in-Day c =
    let told = c.in-Day.is in
    rw (read_as c.requires.2 told, ← (says_as c.requires.2 told 0 (omega arith))) c.set_day.ensures

pub returns-in-Window : goal.returns-in-Window
unfolding says_by
returns-in-Window c =
    let told = c.in-Window.is in
    rw (read_as c.requires.2 told, ← c.part_of-in-Window.ensures, ← (says_as c.requires.2 told 1 (omega arith)), ← (says_as c.requires.2 told 2 (omega arith))) c.window.ensures
