-- What a session's user has and sees, where it is worked out in areas that are lent. Assumes nothing.
use Rattle.std.specs.Prelude.{Some}
use Prim.Native.Nat.{ℕ, zero, suc, ◌-◌, ◌≤◌, ◌<◌}
use mathlib.Core.Bool.{true, false}
use mathlib.Core.Path.{◌≡◌, refl, sym, ap, ap₂, ◌∙◌}
use mathlib.Core.List.{List, [], ◌∷◌, ◌++◌, map}
use native.Mathlib.Omega.{arith}
use borrow.Author.Tests.{eqb-false}
use lib.Bits.{bit_and}
use lib.ListN.{length, take, drop, length-map, length-append}
use lib.Seq.{take_at}
use Rattle.rights.specs.Path.{Path}
use Rattle.rights.specs.PathReader.{Got, got, bad}
use Rattle.rights.specs.How.Reading.{place_of}
use Rattle.rights.specs.Marks.{bit, marks_of}
use Rattle.rights.specs.Nodes.{Nodes}
use Rattle.rights.specs.How.Numbers.{Fits, view_of}
use Rattle.rights.specs.Isa.{passes_own}
use Rattle.rights.specs.PolicyCheck.{policy_ok}
use Rattle.rights.specs.PolicyBytes.{policy_of, subject_count}
use Rattle.rights.specs.How.Roles.{Declared, OwnFirst, Subjects, name_among}
use Rattle.rights.specs.Rights.{rights_by, chains}
use Rattle.rights.specs.How.Groups.{asked_on}
use Rattle.rights.specs.How.Selection.{selection, Selects}
use Rattle.rights.specs.Table.{count, records}
use Rattle.rights.proofs.ChainLaws.{chains-length}
use Rattle.rights.proofs.FiveRights.{asked-all}
use Rattle.rights.proofs.ListLaws.{rest_of}
use Rattle.rights.proofs.MarkLaws.{marks_bits, each-length}
use Rattle.rights.proofs.OwnNames.{own_sound, own-passes, own_part}
use Rattle.rights.proofs.PassLaws.{view-length}
use Rattle.rights.proofs.RightsLaws.{rule_bit}
use Rattle.rights.proofs.SoundLaws.{policy_sound}
use Rattle.rights.proofs.XPathLaws.{selection_xpath}
use Rattle.views.specs.Shown.{stored_from, stored}
use Rattle.views.specs.How.Numbers.{shown_numbers}
use Rattle.views.proofs.AskedLaws.{shown-asked}
use Rattle.views.proofs.TableKept.{length-records}
use Rattle.views.proofs.ViewLaws.{view_fits, view_by_numbers, view-nested}
use Rattle.lines.specs.How.ChangeRoom.{ForView}
use Rattle.lines.specs.State.{user_byte, user_of, day_in, policy_bytes, policy_in, store_ok}
use Rattle.lines.specs.UserView.{no_user, not_path, rights_in, stored_in, view_in, marks_in}
use Rattle.lines.proofs.StateLaws.{store_held}

-- the user of a store that passed is a declared subject
module _ (s t : List ℕ) (ok : store_ok s t ≡ true) (u : no_user s ≡ false) where
  pub user_some : 0 < user_byte s
  user_some = go (user_byte s) (eqb-false (user_byte s) 0 u)
    where
      go : (n : ℕ) → (n ≡ 0 → ⊥) → 0 < n
      go zero h = absurd (h refl)
      go (suc n) h = omega arith

  pub user_declared : user_of s < subject_count (policy_bytes s)
  user_declared = omega (arith, user_some, (store_held s t ok).user)

-- rights beyond the nodes are not looked at
stored_more : (d : ℕ) (rs : List (List ℕ)) (ss more : List ℕ) (i : ℕ) → length ss ≡ length rs → stored_from d i rs (ss ++ more) ≡ stored_from d i rs ss
unfolding stored_from
stored_more d [] ss more i e = refl
stored_more d (r ∷ rs) [] more i e = absurd (omega arith)
stored_more d (r ∷ rs) (x ∷ ss) more i e = ap (λ l. record { number = i; bytes = r; rights = x; day = d } ∷ l) (stored_more d rs ss more (suc i) (omega arith))

pub rights-length : (s t : List ℕ) → length (rights_in s t) ≡ count t
rights-length s t = length-map (chains [] (records t)) (rights_by _ (user_of s)) ∙ chains-length [] (records t) ∙ length-records t

-- the user where the policy is a part of the state, and the subjects for which `$` stands
module _ (s : List ℕ) (user : ℕ) (e : user ≡ user_byte s) where
  pub user_asks : (t : List ℕ) → store_ok s t ≡ true → no_user s ≡ false → Declared (take (length s - 8) (drop 8 s)) (user - 1)
  user_asks t ok u = rw (rest_of s 8, e) (record { policy = (store_held s t ok).policy; subject = user_declared s t ok u })

  pub user_own : (ks : List ℕ) (m : ℕ) → OwnFirst (take (length s - 8) (drop 8 s)) (user - 1) ks m → OwnFirst (policy_bytes s) (user_of s) ks m
  user_own ks m o = rw (rest_of s 8, e) at o

-- what the asked rights of the user are, and give
module _ (s t rights' more : List ℕ) (user asked : ℕ) (e : user ≡ user_byte s) (q : rights' ≡ asked_on asked (policy_of (take (length s - 8) (drop 8 s))) (user - 1) (records t) ++ more) where
  pub asked-held : rights' ≡ asked_on asked (policy_in s) (user_of s) (records t) ++ more
  asked-held =
      q
      ∙ ap (λ p. asked_on asked (policy_of p) (user - 1) (records t) ++ more) (rest_of s 8)
      ∙ ap (λ n. asked_on asked (policy_in s) (n - 1) (records t) ++ more) e

  asked-length : length (asked_on asked (policy_in s) (user_of s) (records t)) ≡ count t
  asked-length = length-map (chains [] (records t)) (λ c. bit_and (rights_by (policy_in s) (user_of s) c) asked) ∙ chains-length [] (records t) ∙ length-records t

  pub asked_cover : count t ≤ length rights'
  asked_cover = omega (arith, ap length asked-held, length-append (asked_on asked (policy_in s) (user_of s) (records t)) more, asked-length)

  -- where position and read are asked, the same nodes are shown
  pub asked-shown : ForView asked → (day : ℕ) → day ≡ day_in s → shown_numbers (stored day t rights') ≡ shown_numbers (stored_in s t)
  asked-shown v day today =
      ap₂ (λ d r. shown_numbers (stored d t r)) today asked-held
      ∙ ap shown_numbers (stored_more (day_in s) (records t) (asked_on asked (policy_in s) (user_of s) (records t)) more 0 (asked-length ∙ sym (length-records t)))
      ∙ shown-asked (day_in s) (rights_by (policy_in s) (user_of s)) asked v.reading v.seeing (records t) (chains [] (records t))

-- where all rights are asked, they are the user's rights
pub all_held : (s t : List ℕ) → store_ok s t ≡ true → (rights' more : List ℕ) → rights' ≡ asked_on 31 (policy_in s) (user_of s) (records t) ++ more → rights' ≡ rights_in s t ++ more
all_held s t ok rights' more e = e ∙ ap (λ r. r ++ more) (asked-all (policy_bytes s) (user_of s) (rule_bit (policy_bytes s) (store_held s t ok).policy) (chains [] (records t)))

-- the numbers of the shown nodes, as the part of an area that holds them
module _ (s t : List ℕ) (ok : store_ok s t ≡ true) (shown' more : List ℕ) (k : ℕ) (e : k ≡ length (shown_numbers (stored_in s t))) (q : shown' ≡ shown_numbers (stored_in s t) ++ more) where
  pub shown_part : take (k - 0) (drop 0 shown') ≡ shown_numbers (stored_in s t)
  shown_part =
      let z : k - 0 ≡ length (shown_numbers (stored_in s t)) = omega arith in
      rw (z, q) (take_at (shown_numbers (stored_in s t)) more (length (shown_numbers (stored_in s t))) refl)

  pub shown_fits : Fits t (take (k - 0) (drop 0 shown'))
  shown_fits = rw shown_part (view_fits (day_in s) t (rights_in s t) (store_held s t ok).table)

  pub shown_long : k ≤ length shown'
  shown_long = omega (arith, ap length q, length-append (shown_numbers (stored_in s t)) more)

  pub shown-view : view_of t (take (k - 0) (drop 0 shown')) ≡ view_in s t
  shown-view = ap (view_of t) shown_part ∙ view_by_numbers (day_in s) t (rights_in s t) (store_held s t ok).table

-- the policy, and the subjects for which `$` stands, as the selection asks for them
pub own-asks : (s t : List ℕ) → store_ok s t ≡ true → (ks : List ℕ) (m : ℕ) → OwnFirst (policy_bytes s) (user_of s) ks m
    → (policy_ok (take (length s - 8) (drop 8 s)) ≡ true) × Subjects (take (length s - 8) (drop 8 s)) (take (m - 0) (drop 0 ks))
own-asks s t ok ks m o = let p = (store_held s t ok).policy in rw (rest_of s 8) (p, own_sound (own_part o) (policy_sound _ p))

marks_long : (s t path : List ℕ) → length (marks_in s t path) ≡ length (view_in s t)
marks_long s t path = each-length _ 0 (length (view_in s t))

view_long : (s t : List ℕ) → store_ok s t ≡ true → length (view_in s t) ≡ length (shown_numbers (stored_in s t))
view_long s t ok = sym (ap length (view_by_numbers (day_in s) t (rights_in s t) (store_held s t ok).table)) ∙ view-length t (shown_numbers (stored_in s t))

pub marks_size : (s t path : List ℕ) → store_ok s t ≡ true → length (marks_in s t path) ≡ length (shown_numbers (stored_in s t))
marks_size s t path ok = marks_long s t path ∙ view_long s t ok

-- what is selected from the user's view
module _ (s t path : List ℕ) (ok : store_ok s t ≡ true) (ks : List ℕ) (m : ℕ) (own : OwnFirst (policy_bytes s) (user_of s) ks m) (nodes : Nodes) (v : nodes ≡ view_in s t) where
  pub picked_are : (before after : List ℕ) (k : ℕ) → k ≡ length (shown_numbers (stored_in s t))
      → Selects nodes (name_among (take (length s - 8) (drop 8 s)) (take (m - 0) (drop 0 ks))) path before after → after ≡ map bit (marks_in s t path) ++ drop k before
  picked_are before after k z q =
      let mine : name_among (take (length s - 8) (drop 8 s)) (take (m - 0) (drop 0 ks)) ≡ passes_own (policy_in s) (user_of s) =
      ap (λ p. name_among p (take (m - 0) (drop 0 ks))) (rest_of s 8) ∙ own-passes (own_part own) in
      let marks : selection path (passes_own (policy_in s) (user_of s)) nodes ≡ marks_in s t path =
      ap (selection path (passes_own (policy_in s) (user_of s))) v
      ∙ selection_xpath (passes_own (policy_in s) (user_of s)) (view_in s t) (view-nested (day_in s) t (rights_in s t) (store_held s t ok).table) path in
      q
      ∙ ap (λ f. map bit (selection path f nodes) ++ drop (length nodes) before) mine
      ∙ ap (λ l. map bit l ++ drop (length nodes) before) marks
      ∙ ap (λ n. map bit (marks_in s t path) ++ drop n before) (ap length v ∙ view_long s t ok ∙ sym z)

-- a part that holds the marks
pub marks_part : (s t path marks' more : List ℕ) (k : ℕ) → store_ok s t ≡ true → k ≡ length (shown_numbers (stored_in s t)) → marks' ≡ map bit (marks_in s t path) ++ more
    → take (k - 0) (drop 0 marks') ≡ map bit (marks_in s t path)
marks_part s t path marks' more k ok e q =
    let z : k - 0 ≡ length (map bit (marks_in s t path)) = omega (arith, marks_size s t path ok, length-map (marks_in s t path) bit) in
    rw (z, q) (take_at (map bit (marks_in s t path)) more (length (map bit (marks_in s t path))) refl)

pub marks_are : (s t path marks' more : List ℕ) (k : ℕ) → store_ok s t ≡ true → k ≡ length (shown_numbers (stored_in s t)) → marks' ≡ map bit (marks_in s t path) ++ more
    → marks_of (take (k - 0) (drop 0 marks')) ≡ marks_in s t path
marks_are s t path marks' more k ok e q = ap marks_of (marks_part s t path marks' more k ok e q) ∙ marks_bits (marks_in s t path)

-- what was read of a path
-- what is not refused was read
pub path_read : (g : Got Path) → not_path g ≡ false → g ≡ bad → ⊥
path_read (got p i) e q = let z : ◌≡◌ {A = ℕ} 0 1 = cc in omega arith
path_read bad e q = let z : ◌≡◌ {A = ℕ} 0 1 = cc in omega arith

pub is_path : (g : Got Path) (i : ℕ) → place_of g ≡ Some i → not_path g ≡ false
is_path (got p k) i e = refl
is_path bad i e = absurd (let z : ◌≡◌ {A = ℕ} 0 1 = cc in omega arith)

pub marks_long_enough : (s t path marks' more : List ℕ) (k : ℕ) → store_ok s t ≡ true → k ≡ length (shown_numbers (stored_in s t)) → marks' ≡ map bit (marks_in s t path) ++ more → k ≤ length marks'
marks_long_enough s t path marks' more k ok e q = omega (arith, ap length q, length-append (map bit (marks_in s t path)) more, length-map (marks_in s t path) bit, marks_size s t path ok)

pub marks_cover : (s t path shown' more marks' rest : List ℕ) (k : ℕ) (ok : store_ok s t ≡ true) (e : k ≡ length (shown_numbers (stored_in s t))) → shown' ≡ shown_numbers (stored_in s t) ++ more
    → marks' ≡ map bit (marks_in s t path) ++ rest → length (take (k - 0) (drop 0 shown')) ≤ length (take (k - 0) (drop 0 marks'))
marks_cover s t path shown' more marks' rest k ok e q m =
    omega (arith, ap length (shown_part s t ok shown' more k e q), ap length (marks_part s t path marks' rest k ok e m), length-map (marks_in s t path) bit, marks_size s t path ok)
