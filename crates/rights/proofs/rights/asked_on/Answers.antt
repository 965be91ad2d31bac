use Prim.Native.Nat.{ℕ, ◌≤◌, ◌<◌}
use mathlib.Core.Path.{◌≡◌, sym, ap, subst, ◌∙◌}
use mathlib.Core.List.{List, ◌++◌}
use native.Mathlib.Omega.{arith}
use lib.ListN.{length, drop, take, replicate}
use Rattle.std.proofs.lemmas.List.{length-take-le}
use Rattle.rights.specs.Table.{records_from}
use Rattle.rights.specs.PolicyBytes.{policy_of}
use Rattle.rights.specs.How.Automaton.{Sound, Each, chain_of}
use Rattle.rights.specs.How.Groups.{asked_on, by_five}
use Rattle.rights.specs.How.Roles.{Subjects}
use Rattle.rights.specs.How.Vocabulary.{Sorted}
use Rattle.rights.proofs.TableLaws.{table_long, table_room, table_few, table_records}
use Rattle.rights.proofs.EachLaws.{each_filled}
use Rattle.rights.proofs.Model.{used_sound, used_paths}
use Rattle.rights.proofs.FiveRights.{rights_done}
use Rattle.rights.proofs.RightsLaws.{rule_bit}
use Rattle.rights.proofs.SoundLaws.{policy_sound}
use Rattle.rights.proofs.rights.asked_on.Goals as goal

taken : (n : ℕ) → n ≤ 16384 → length {A = ℕ} (take n (replicate 16384 0)) ≡ n
taken n h = length-take-le n (replicate 16384 0) h

pub count_of-n-requires : goal.count_of-n-requires
count_of-n-requires c = table_long _ c.requires.3

pub names_used-requires : goal.names_used-requires
names_used-requires c = policy_sound _ c.requires.0

pub for_rights-words-requires : goal.for_rights-words-requires
for_rights-words-requires c =
    let g = c.requires in
    let sound = policy_sound _ g.0 in
    (sound, used_sound g.2 _ c.names_used.ensures sound)

pub slice_bounds-numbers-end : goal.slice_bounds-numbers-end
slice_bounds-numbers-end c = omega (arith, c.count_of-n.ensures, table_few _ c.requires.3)

pub slice_bounds-numbers-end-2 : goal.slice_bounds-numbers-end-2
slice_bounds-numbers-end-2 c = sym (taken c.count_of-n.result (omega (arith, c.count_of-n.ensures, table_few _ c.requires.3)))

pub number_nodes-requires : goal.number_nodes-requires
number_nodes-requires c =
    let g = c.requires in
    let e = taken c.count_of-n.result (omega (arith, c.count_of-n.ensures, table_few _ g.3)) ∙ c.count_of-n.ensures in
    rw e (table_room _ g.3, table_records _ g.3)

pub invariant_of-trial : goal.invariant_of-trial
invariant_of-trial c =
    let g = c.requires in
    let w = c.for_rights-words in
    let own = take c.names_used.result c.args.own.now in
    let e = w.ensures.0 in
    let sound = policy_sound _ g.0 in
    let r = c.number_nodes.ensures in
    let few = table_few _ g.3 in
    let long = r.long ∙ taken c.count_of-n.result (omega (arith, c.count_of-n.ensures, few)) ∙ c.count_of-n.ensures in
    record {
      ready = record {
        sound = subst Sound (sym e) sound;
        subjects = subst (λ (p : List ℕ). Subjects p own) (sym e) (used_sound g.2 _ c.names_used.ensures sound);
        sorted = subst (λ (p : List ℕ). Sorted p own w.result.places w.result.count) (sym e) w.ensures.1;
      };
      numbered = record {
        few = rw long few;
        room = rw long (table_room _ g.3);
        records = rw long (table_records _ g.3);
        long = omega arith;
        at = λ i h. r.at i (subst (λ (k : ℕ). i < k) r.long h);
      };
    }

pub returns : goal.returns
returns c =
    let a = c.args in
    let g = c.requires in
    let p = a.policy.now in
    let t = a.table.now in
    let n = c.count_of-n.result in
    let e = c.count_of-n.ensures in
    let own = take c.names_used.result a.own.now in
    let few : n ≤ length a.out.now = omega (arith, e, g.4) in
    let zeros = each_filled n a.out.now c.fill.new.self few 0 (c.fill.ensures.after (λ y h. h)) in
    let long : length c.number_nodes.new.numbers ≡ n = c.number_nodes.ensures.long ∙ taken n (omega (arith, e, table_few _ g.3)) in
    let tried = subst (λ (k : ℕ). Each k (c.fill.new.self ++ drop n a.out.now) c.try_rights.new.out (λ (i x : ℕ). by_five p own a.roles.now (chain_of t i) a.asked x)) long
    (subst (λ (q : List ℕ). Each (length c.number_nodes.new.numbers) (c.fill.new.self ++ drop n a.out.now) c.try_rights.new.out (λ (i x : ℕ). by_five q own a.roles.now (chain_of t i) a.asked x)) c.for_rights-words.ensures.0 c.try_rights.ensures) in
    rights_done p own a.roles.now t a.u n a.asked (used_paths g.2 _ c.names_used.ensures) (policy_sound _ g.0) (rule_bit _ g.0) g.1 a.out.now _ _ few zeros tried
    ∙ ap (λ (k : ℕ). asked_on a.asked (policy_of p) a.u (records_from t k 0) ++ drop k a.out.now) e
