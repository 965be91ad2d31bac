use mathlib.Core.Bool.{Bool, true, false}
use mathlib.Core.List.{List}
use mir.Val.{bool_byte}
use mathlib.Core.Path.{◌≡◌, refl, sym, ap, subst, ◌∙◌}
use Prim.Native.Nat.{ℕ}
use native.Mathlib.Omega.{arith}
use lib.ListN.{length, length-set}
use Rattle.rights.specs.How.Automaton.{Sound}
use Rattle.rights.specs.How.Roles.{Subjects, name_among}
use Rattle.rights.specs.Marks.{bit}
use Rattle.rights.proofs.AllowedPolicyLaws.{restricted_no_name}
use Rattle.rights.proofs.PassLaws as laws
use Rattle.rights.proofs.SoundLaws.{policy_sound}
use Rattle.rights.proofs.VocabularyLaws.{adds_first}
use Rattle.rights.proofs.passes.mark_own.Goals as goal

pub returns-then-not-has_own-clause-own_marked : goal.returns-then-not-has_own-clause-own_marked
returns-then-not-has_own-clause-own_marked c =
    λ at e. absurd (laws.no_own c.args.s.now (sym c.has_own.ensures ∙ c.if-not-has_own.true) at e)

pub add_own-requires : goal.add_own-requires
add_own-requires c =
    let g = c.requires in
    let e = c.new-words.ensures in
    (subst Sound (sym e.0) (policy_sound _ g.0), subst (λ (p : List ℕ). Subjects p c.args.own.now) (sym e.0) g.1, omega (arith, e.1))

pub loop-i-init : goal.loop-i-init
loop-i-init c = (refl, laws.marked_none _ _, λ k h. refl)

byte : (b : Bool) → bool_byte b ≡ bit b
byte true = refl
byte false = refl

pub loop-i-preserved : goal.loop-i-preserved
loop-i-preserved c =
    let a = c.args in
    let l = c.loop-i in
    let h = c.loop-i-test.true in
    let own = a.own.now in
    let new = c.new-words.ensures in
    let told = c.label_listed.ensures (name_among a.policy.now own)
    (adds_first c.new-words.result c.add_own.new.self 64 a.policy.now (λ (p : List ℕ). name_among p own) new.0 new.1 c.add_own.ensures)
    (restricted_no_name a.policy.now c.requires.0 own c.requires.1) in (
      simp length-set l.invariant.0,
      laws.marked_more l.marks _ l.i c.from.result (omega (arith, h, c.requires.2, l.invariant.0)) l.invariant.1 (c.from.ensures ∙ byte (c.label_listed.result) ∙ ap bit told),
      laws.kept_more a.marks.now l.marks l.i _ l.invariant.2,
    )

pub returns-clause-marks_unchanged : goal.returns-clause-marks_unchanged
returns-clause-marks_unchanged c =
    let l = c.loop-i in
    laws.kept-rest c.args.marks.now l.marks l.i (length c.args.shown.now.numbers.now) (omega arith) l.invariant.0 l.invariant.2
