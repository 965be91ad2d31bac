use mathlib.Core.Path.{refl, sym, ◌∙◌}
use native.Mathlib.Omega.{arith}
use native.Mathlib.Nat.{pos_of_ne-zero}
use Rattle.rights.proofs.PathLaws.{brackets_many, brackets_deep}
use Rattle.rights.proofs.PassLaws.{position_four, both_marked}
use Rattle.rights.proofs.MatcherLaws.{got_of, stands, stands_not, step_done, path_none, path_no_step, path_stop, path_last, path_no_rest, path_next, brackets_bad, brackets_empty, brackets_stop, brackets_next, bracket_no_number, bracket_number, bracket_slash, bracket_no_path, bracket_open, bracket_path}
use Rattle.rights.proofs.selection.Matcher.+match_bracket_match_brackets_match_path_match_step_match_steps.Goals as goal
use Rattle.rights.proofs.selection.Matcher.+match_bracket_match_brackets_match_path_match_step_match_steps.Goals.{match_brackets-then-left-eq0-via-then-left-eq0, match_brackets-then-left-eq0-via-else-left-eq0+then-deep-eq0}

pub match_bracket-returns-in_err-i : goal.match_bracket-returns-in_err-i
match_bracket-returns-in_err-i t c =
    rw c.from_residual.ensures (bracket_no_number _ _ _ _ _ _ _ _ c.read_position.result (sym c.is_position.ensures ∙ c.if-is_position.true) c.read_position.ensures.is c.in_err-i.was)

pub match_bracket-keep_position-requires : goal.match_bracket-keep_position-requires
match_bracket-keep_position-requires t c =
    let g = got_of _ c.in_ok-i.i (sym c.read_position.ensures.is ∙ c.in_ok-i.was) in
    (c.requires.0, c.requires.1, position_four _ _ g.0 c.in_ok-i.i g.1)

pub match_bracket-returns-then-is_position : goal.match_bracket-returns-then-is_position
match_bracket-returns-then-is_position t c =
    let e = c.in_ok-i.was in
    let o = c.read_position.ensures.on _ e in
    bracket_number _ _ _ _ _ _ _ _ c.in_ok-i.i (sym c.is_position.ensures ∙ c.if-is_position.true) (sym c.read_position.ensures.is ∙ e) o.0 o.1 c.keep_position.ensures

pub match_bracket-returns-then-byte_is : goal.match_bracket-returns-then-byte_is
match_bracket-returns-then-byte_is t c =
    bracket_slash _ _ _ _ _ _ _ _ (sym c.is_position.ensures ∙ c.if-is_position.false) (stands c.args.self.now.path.now c.args.at 47 _ c.byte_is.ensures c.if-byte_is.true)

pub match_bracket-returns-in_err-j : goal.match_bracket-returns-in_err-j
match_bracket-returns-in_err-j t c =
    rw c.from_residual-in_err-j.ensures
    (bracket_no_path _ _ _ _ _ _ _ _ _ c.match_path.result c.match_path.ensures (sym c.is_position.ensures ∙ c.if-is_position.false) (stands_not c.args.self.now.path.now c.args.at 47 _ c.byte_is.ensures c.if-byte_is.false) c.in_err-j.was)

pub match_bracket-returns-then-not-byte_is : goal.match_bracket-returns-then-not-byte_is
match_bracket-returns-then-not-byte_is t c =
    bracket_open _ _ _ _ _ _ _ _ _ c.match_path.result c.match_path.ensures (sym c.is_position.ensures ∙ c.if-is_position.false) (stands_not c.args.self.now.path.now c.args.at 47 _ c.byte_is.ensures c.if-byte_is.false)
    c.in_ok-j.j c.in_ok-j.was (stands_not c.args.self.now.path.now c.in_ok-j.j 93 _ c.byte_is-2.ensures c.if-not-byte_is.true)

pub match_bracket-returns : goal.match_bracket-returns
match_bracket-returns t c =
    bracket_path _ _ _ _ _ _ _ _ _ c.match_path.result c.match_path.ensures (sym c.is_position.ensures ∙ c.if-is_position.false) (stands_not c.args.self.now.path.now c.args.at 47 _ c.byte_is.ensures c.if-byte_is.false)
    c.in_ok-j.j c.in_ok-j.was (stands c.args.self.now.path.now c.in_ok-j.j 93 _ c.byte_is-2.ensures c.if-not-byte_is.false) (both_marked _ _ _ _ (omega arith) c.keep_both.ensures)

pub match_brackets-returns-then-not-byte_is : goal.match_brackets-returns-then-not-byte_is
match_brackets-returns-then-not-byte_is t c = brackets_empty _ _ _ _ _ _ _ _ _ refl c.requires.1 (stands_not c.args.self.now.path.now c.args.at 91 _ c.byte_is.ensures c.if-not-byte_is.true)

pub match_brackets-returns-then-left-eq0 : goal.match_brackets-returns-then-left-eq0
match_brackets-returns-then-left-eq0 t c =
    let op = stands c.args.self.now.path.now c.args.at 91 _ c.byte_is.ensures c.if-not-byte_is.false in
    brackets_bad _ _ _ _ _ _ _ _ _ (elim c.then-left-eq0.branch [
      | match_brackets-then-left-eq0-via-then-left-eq0 w ↦ rw w.if-left-eq0.true (brackets_many _ _ _ op)
      | match_brackets-then-left-eq0-via-else-left-eq0+then-deep-eq0 w ↦ rw w.if-deep-eq0.true (brackets_deep _ _ _ op)
    ])

pub match_brackets-returns-in_err-i : goal.match_brackets-returns-in_err-i
match_brackets-returns-in_err-i t c =
    rw c.from_residual.ensures
    (brackets_stop _ _ _ _ _ _ _ _ _ _ c.match_bracket.result c.match_bracket.ensures (pos_of_ne-zero c.if-deep-eq0.false) (pos_of_ne-zero c.if-left-eq0.false) (stands c.args.self.now.path.now c.args.at 91 _ c.byte_is.ensures c.if-not-byte_is.false)
    c.in_err-i.was)

pub match_brackets-returns : goal.match_brackets-returns
match_brackets-returns t c =
    brackets_next _ _ _ _ _ _ _ _ _ _ c.match_bracket.result c.match_bracket.ensures (pos_of_ne-zero c.if-deep-eq0.false) (pos_of_ne-zero c.if-left-eq0.false) (stands c.args.self.now.path.now c.args.at 91 _ c.byte_is.ensures c.if-not-byte_is.false)
    c.in_ok-i.i _ c.in_ok-i.was c.match_brackets.ensures

pub match_step-returns : goal.match_step-returns
match_step-returns t c = step_done _ _ _ _ _ _ _ _ _ _ c.mark_test.ensures c.match_brackets.ensures

pub match_steps-returns-then-left-eq0 : goal.match_steps-returns-then-left-eq0
match_steps-returns-then-left-eq0 t c = path_none _ _ _ _ _ _ _ _ c.if-left-eq0.true

pub match_steps-returns-in_err-step : goal.match_steps-returns-in_err-step
match_steps-returns-in_err-step t c = rw c.from_residual.ensures (path_no_step _ _ _ _ _ _ _ _ c.read_step.result c.read_step.ensures c.in_err-step.was)

pub match_steps-returns-in_err-j : goal.match_steps-returns-in_err-j
match_steps-returns-in_err-j t c =
    let step = c.in_ok-step.step in
    rw c.from_residual-in_err-j.ensures
    (path_stop _ _ _ _ _ _ _ _ c.read_step.result c.read_step.ensures step.axis step.at step.end c.in_ok-step.was _ c.match_step.result c.match_step.ensures c.in_err-j.was)

pub match_steps-returns-then-not-byte_is : goal.match_steps-returns-then-not-byte_is
match_steps-returns-then-not-byte_is t c =
    let step = c.in_ok-step.step in
    path_last _ _ _ _ _ _ _ _ c.read_step.result c.read_step.ensures step.axis step.at step.end c.in_ok-step.was _ c.match_step.result c.match_step.ensures (pos_of_ne-zero c.if-left-eq0.false)
    c.in_ok-j.j c.in_ok-j.was (stands_not c.args.self.now.path.now c.in_ok-j.j 47 _ c.byte_is.ensures c.if-not-byte_is.true) c.mark_some.ensures

pub match_steps-returns-in_err-e : goal.match_steps-returns-in_err-e
match_steps-returns-in_err-e t c =
    let step = c.in_ok-step.step in
    rw c.from_residual-in_err-e.ensures
    (path_no_rest _ _ _ _ _ _ _ _ c.read_step.result c.read_step.ensures step.axis step.at step.end c.in_ok-step.was _ c.match_step.result c.match_step.ensures (pos_of_ne-zero c.if-left-eq0.false)
    c.in_ok-j.j c.in_ok-j.was (stands c.args.self.now.path.now c.in_ok-j.j 47 _ c.byte_is.ensures c.if-not-byte_is.false) _ c.match_path.result c.match_path.ensures c.in_err-e.was)

pub match_steps-returns : goal.match_steps-returns
match_steps-returns t c =
    let step = c.in_ok-step.step in
    path_next _ _ _ _ _ _ _ _ c.read_step.result c.read_step.ensures step.axis step.at step.end c.in_ok-step.was _ c.match_step.result c.match_step.ensures (pos_of_ne-zero c.if-left-eq0.false)
    c.in_ok-j.j c.in_ok-j.was (stands c.args.self.now.path.now c.in_ok-j.j 47 _ c.byte_is.ensures c.if-not-byte_is.false) _ c.match_path.result c.match_path.ensures
    c.in_ok-e.e c.in_ok-e.was _ (both_marked _ _ _ _ (omega arith) c.keep_both.ensures) c.mark_some-2.ensures
