-- What a turn of an insertion does. Assumes nothing.
use mathlib.Core.Path.{◌≡◌, refl, ap, sym, ◌∙◌}
use mathlib.Core.List.{List, [], ◌∷◌, ◌++◌, append_assoc, append-nil}
use mathlib.Core.Bool.{true, false, cond, not, false≢true}
use Prim.Native.Nat.{ℕ, zero, suc, ◌+◌, ◌-◌, ◌*◌, ◌≤◌, ◌<◌}
use native.Mathlib.Omega.{arith}
use lib.ListN.{length, get_or, take, drop, set, length-append}
use lib.Dec.{eqb, ltb}
use borrow.Author.Tests.{eq-eqb, ne_eqb, leb-true, leb-false, ltb-true, ltb-false}
use Rattle.views.proofs.ChunkLaws.{length-chunks, marks_drop, level_first, one_more}
use Rattle.views.proofs.InsertionLaws.{due_first, due-take, length-due, insert_behind-longer, insert_in_front-longer, not-due, falls_length}
use Rattle.views.proofs.RecordBytes.{length-raise, length-tree_at, above-raise, rest-same, rest_cons, rest-none, rest-front, rest_low, rest_done, stack_pop, stack_push, length-stack}
use Rattle.rights.specs.Table.{level}
use Rattle.rights.proofs.ListLaws.{by_case}
use Rattle.views.specs.Change.{insert_in_front, chunks, raise}
use Rattle.rights.specs.Marks.{marks_of}
use Rattle.views.specs.How.Pass.{Below, Falls, is_due, front, due, AtDone, tree_at, Shallow, behind, in_front, stack, rest, passing, passing_front, Fixed, Between}
use Rattle.views.specs.Nodes.{All}

length_rest : (n gap i : ℕ) (t : List ℕ) → length (rest n gap i t) ≡ n - i
length_rest n gap i t = length-chunks (n - i) _

pub depth : (n gap up m i d : ℕ) (tree ms t st : List ℕ) → Between n gap up m i d tree ms t st → d ≤ 12
depth n gap up m i d tree ms t st b = omega (arith, falls_length 12 (stack d st) b.below b.falls, length-stack d st)

-- a level is due: there is one, and it is not above the next record
pub due-some : (l d : ℕ) (st : List ℕ) → is_due l (stack d st) ≡ true → 0 < d
unfolding stack
due-some l zero st e = absurd (false≢true e)
due-some l (suc d) st e = omega arith

pub due_deep : (l d : ℕ) (st : List ℕ) → 0 < d → is_due l (stack d st) ≡ true → l ≤ get_or st (d - 1) 0
due_deep l d st h e = leb-true _ _ (rw (stack_pop d st h) at e)

-- no level is due: a record is there
pub none-due : (l d : ℕ) (st : List ℕ) → l ≡ 0 → is_due l (stack d st) ≡ false → d ≡ 0
unfolding stack
none-due l zero st z e = refl
none-due l (suc d) st z e = let h : get_or st d 0 < l = leb-false _ _ e in absurd (omega arith)

pub some_left : (n gap i d l : ℕ) (t st : List ℕ) → i ≤ n → i < n + d → l ≡ front level (rest n gap i t) → is_due l (stack d st) ≡ false → i < n
some_left n gap i d l t st h k e f = by_case (ltb i n)
    (λ q. ltb-true i n q)
    (λ q. let g : n ≤ i = ltb-false i n q in
    let z : l ≡ 0 = e ∙ ap (front level) (rest-none n gap i t g) in
    let y : d ≡ 0 = none-due l d st z f in omega arith)

pub whole_length : (w : ℕ) (t : List ℕ) (u : List (List ℕ)) → length (chunks w (drop 4 t) ++ u) ≡ w + length u
whole_length w t u = length-append (chunks w (drop 4 t)) u ∙ ap (λ (z : ℕ). z + length u) (length-chunks w (drop 4 t))

-- the levels that wait after a record is taken
pub push_marked : (b l d : ℕ) (st : List ℕ) → (b ≡ 0 → ⊥) → d < length st → stack (d + 1) (set st d l) ≡ cond (not (eqb b 0)) (l ∷ stack d st) (stack d st)
push_marked b l d st z h = rw (ne_eqb b 0 z) (stack_push d l st h)

pub push_plain : (b l d : ℕ) (st : List ℕ) → b ≡ 0 → stack d st ≡ cond (not (eqb b 0)) (l ∷ stack d st) (stack d st)
push_plain b l d st z = rw (eq-eqb b 0 z)

module _ (n gap up m : ℕ) (tree ms : List ℕ) where
  -- a waiting tree is written
  module _ (i w d : ℕ) (t st : List ℕ) (some : 0 < d) (falls : Falls (stack d st)) (deep : front level (rest n gap i t) ≤ get_or st (d - 1) 0) where
    first : due level (tree_at up m tree) (stack d st) (behind up m tree (drop i ms) (rest n gap i t))
        ≡ tree_at up m tree (get_or st (d - 1) 0) ++ due level (tree_at up m tree) (stack (d - 1) st) (behind up m tree (drop i ms) (rest n gap i t))
    first =
        let f = rw (stack_pop d st some) at falls in
        rw (stack_pop d st some)
        (due_first level (tree_at up m tree) (get_or st (d - 1) 0) (stack (d - 1) st) (marks_of (drop i ms)) (rest n gap i t) f.0 (above-raise _ _ (chunks m tree) (omega arith)) deep)

    pub pop_room : length (passing n gap up m tree ms i w d t st) ≡ n + gap → i ≤ n → w + m ≤ gap + i
    pop_room e h =
        let u = behind up m tree (drop i ms) (rest n gap i t) in
        let a : length (due level (tree_at up m tree) (stack d st) u) ≡ m + length (due level (tree_at up m tree) (stack (d - 1) st) u) =
        ap length first ∙ length-append (tree_at up m tree (get_or st (d - 1) 0)) (due level (tree_at up m tree) (stack (d - 1) st) u) ∙ ap (λ (z : ℕ). z + length (due level (tree_at up m tree) (stack (d - 1) st) u)) (length-tree_at up m tree (get_or st (d - 1) 0)) in
        omega (
          arith,
          e,
          whole_length w t (due level (tree_at up m tree) (stack d st) u),
          a,
          length-due level (tree_at up m tree) (stack (d - 1) st) u,
          insert_behind-longer level (λ r. tree_at up m tree (level r)) (marks_of (drop i ms)) (rest n gap i t),
          length_rest n gap i t,
        )

    module _ (p : List ℕ) (room : w + m ≤ gap + i)
        (front-p : chunks (w + m) (drop 4 p) ≡ chunks w (drop 4 t) ++ raise (up + get_or st (d - 1) 0) (chunks m tree))
        (back : drop (4 + (w + m) * 32) p ≡ drop (4 + (w + m) * 32) t) where
      rest-q : rest n gap i p ≡ rest n gap i t
      rest-q = rest-same n gap i (4 + (w + m) * 32) t p (omega arith) back

      pub pop_same : (i' w' d' : ℕ) → i' ≡ i → w' ≡ w + m → d' ≡ d - 1 → passing n gap up m tree ms i' w' d' p st ≡ passing n gap up m tree ms i w d t st
      pop_same i' w' d' a b c = rw (a, b, c, rest-q, front-p, first) (append_assoc (chunks w (drop 4 t)) _ _)

      pub pop_between : (i' d' : ℕ) → i' ≡ i → d' ≡ d - 1 → Between n gap up m i d tree ms t st → Between n gap up m i' d' tree ms p st
      pop_between i' d' ei ed b =
          let a = rw (stack_pop d st some) at b.falls in
          let z = rw (stack_pop d st some) at b.below in
          let f = rw (stack_pop d st some) at b.fits in
          rw (ei, ed) (record { place = b.place; below = z.1; falls = a.1; fits = f.1; low = rw rest-q b.low; done = rw rest-q b.done; room = b.room })

  -- a record is taken
  module _ (i w d : ℕ) (t st : List ℕ) (inside : i < n) (falls : Falls (stack d st)) (deep : is_due (get_or t (4 + (gap + i) * 32) 0) (stack d st) ≡ false) where
    under : Below (get_or t (4 + (gap + i) * 32) 0) (stack d st)
    under = not-due _ (stack d st) falls deep

    pub take_room : length (passing n gap up m tree ms i w d t st) ≡ n + gap → w ≤ gap + i
    take_room e =
        let u = behind up m tree (drop i ms) (rest n gap i t) in
        omega (
          arith,
          e,
          whole_length w t (due level (tree_at up m tree) (stack d st) u),
          length-due level (tree_at up m tree) (stack d st) u,
          insert_behind-longer level (λ r. tree_at up m tree (level r)) (marks_of (drop i ms)) (rest n gap i t),
          length_rest n gap i t,
        )

    next : i < length ms → due level (tree_at up m tree) (stack d st) (behind up m tree (drop i ms) (rest n gap i t))
        ≡ take 32 (drop (4 + (gap + i) * 32) t) ∷ due level (tree_at up m tree) (cond (not (eqb (get_or ms i 0) 0)) (get_or t (4 + (gap + i) * 32) 0 ∷ stack d st) (stack d st))
        (behind up m tree (drop (i + 1) ms) (rest n gap (i + 1) t))
    next h =
        let r = take 32 (drop (4 + (gap + i) * 32) t) in
        let b : Below (level r) (stack d st) = rw (level_first (4 + (gap + i) * 32) t) under in
        rw (rest_cons n gap i t inside, marks_drop ms i h, ← level_first (4 + (gap + i) * 32) t)
        (due-take level (tree_at up m tree) (stack d st) r (not (eqb (get_or ms i 0) 0) ∷ marks_of (drop (i + 1) ms)) (rest n gap (i + 1) t) b)

    module _ (p : List ℕ) (size : 4 + (n + gap) * 32 ≤ length t) (many : n ≤ length ms) (room : w ≤ gap + i)
        (head : take (4 + w * 32 + 32) p ≡ take (4 + w * 32) t ++ take 32 (drop (4 + (gap + i) * 32) t))
        (back : drop (4 + (gap + i) * 32 + 32) p ≡ drop (4 + (gap + i) * 32 + 32) t) where
      rest-p : rest n gap (i + 1) p ≡ rest n gap (i + 1) t
      rest-p = rest-same n gap (i + 1) (4 + (gap + i) * 32 + 32) t p (omega arith) back

      taken : (ks : List ℕ) → ks ≡ cond (not (eqb (get_or ms i 0) 0)) (get_or t (4 + (gap + i) * 32) 0 ∷ stack d st) (stack d st)
          → chunks (w + 1) (drop 4 p) ++ due level (tree_at up m tree) ks (behind up m tree (drop (i + 1) ms) (rest n gap (i + 1) p))
          ≡ passing n gap up m tree ms i w d t st
      taken ks e = rw (e, rest-p, one_more w t p _ (omega arith) head, next (omega arith)) (append_assoc (chunks w (drop 4 t)) _ _)

      module _ (i' w' d' : ℕ) (st' : List ℕ) (ei : i' ≡ i + 1) (ew : w' ≡ w + 1)
          (es : stack d' st' ≡ cond (not (eqb (get_or ms i 0) 0)) (get_or t (4 + (gap + i) * 32) 0 ∷ stack d st) (stack d st)) where
        pub take_same : passing n gap up m tree ms i' w' d' p st' ≡ passing n gap up m tree ms i w d t st
        take_same = rw (ei, ew) (taken (stack d' st') es)

        pub take-between : Between n gap up m i d tree ms t st → length st' ≡ length st → Between n gap up m i' d' tree ms p st'
        take-between b e =
            let lo = rest_low n gap i t inside b.low in
            let dn = rest_done n gap i t inside (Shallow up m tree) ms (omega arith) b.done in
            let z = by_case {C = Below 12 (stack d' st') × Falls (stack d' st') × All (Shallow up m tree) (stack d' st')} (not (eqb (get_or ms i 0) 0))
            (λ q. let f = rw q at es in rw f ((lo.0, b.below), (under, b.falls), (dn.0 q, b.fits)))
            (λ q. let f = rw q at es in rw f (b.below, b.falls, b.fits)) in
            rw ei (record { place = omega arith; below = z.0; falls = z.1; fits = z.2; low = rw rest-p lo.1; done = rw rest-p dn.1; room = e ∙ b.room })

    pub push_room : Between n gap up m i d tree ms t st → d < length st
    push_room b = omega (arith, falls_length _ (stack d st) under falls, length-stack d st, (rest_low n gap i t inside b.low).0, b.room)

-- a turn, from what is known before it
module _ (n gap up m i w d l : ℕ) (t ms tree st : List ℕ) (fx : Fixed n gap m t ms tree) (one : up ≤ 1) (bt : Between n gap up m i d tree ms t st) (busy : i < n + d)
    (total : length (passing n gap up m tree ms i w d t st) ≡ n + gap) (el : l ≡ front level (rest n gap i t)) where
  module _ (q : is_due l (stack d st) ≡ true) where
    some : 0 < d
    some = due-some l d st q

    deep : front level (rest n gap i t) ≤ get_or st (d - 1) 0
    deep = rw el at (due_deep l d st some q)

    flush-room : w + m ≤ gap + i
    flush-room = pop_room n gap up m tree ms i w d t st some bt.falls deep total bt.place

    pub flush_asks : ((0 < d) × (d ≤ length st) × (4 + (w + m) * 32 ≤ length t) × (m * 32 ≤ length tree))
        × ((get_or st (d - 1) 0 < 12) × (up ≤ 1) × Shallow up m tree (get_or st (d - 1) 0))
    flush_asks =
        let b = rw (stack_pop d st some) at bt.below in
        let f = rw (stack_pop d st some) at bt.fits in
        ((some, omega (arith, depth n gap up m i d tree ms t st bt, bt.room), omega (arith, flush-room, fx.size, bt.place), fx.whole), (b.0, one, f.0))

    pub flush_gives : (p : List ℕ) (i' w' d' : ℕ)
        → (i' ≡ i) × (w' ≡ w + m) × (d' ≡ d - 1) × (chunks (w + m) (drop 4 p) ≡ chunks w (drop 4 t) ++ raise (up + get_or st (d - 1) 0) (chunks m tree))
        × (drop (4 + (w + m) * 32) p ≡ drop (4 + (w + m) * 32) t)
        → Between n gap up m i' d' tree ms p st × ((n - i' + (n - i') + d' < n - i + (n - i) + d) × (passing n gap up m tree ms i' w' d' p st ≡ passing n gap up m tree ms i w d t st))
    flush_gives p i' w' d' e = (
      pop_between n gap up m tree ms i w d t st some bt.falls deep p flush-room e.3 e.4 i' d' e.0 e.2 bt,
      (omega (arith, e.0, e.2, some), pop_same n gap up m tree ms i w d t st some bt.falls deep p flush-room e.3 e.4 i' w' d' e.0 e.1 e.2),
    )

  module _ (q : is_due l (stack d st) ≡ false) where
    inside : i < n
    inside = some_left n gap i d l t st bt.place busy el q

    at-l : l ≡ get_or t (4 + (gap + i) * 32) 0
    at-l = el ∙ sym (rest-front n gap i t inside)

    shut : is_due (get_or t (4 + (gap + i) * 32) 0) (stack d st) ≡ false
    shut = rw (← at-l) q

    tk-room : w ≤ gap + i
    tk-room = take_room n gap up m tree ms i w d t st inside bt.falls shut total

    pub take-asks : (w ≤ gap + i) × (4 + (gap + i) * 32 + 32 ≤ length t) × (i < length ms) × (d < length st)
    take-asks = (tk-room, omega (arith, inside, fx.size), omega (arith, inside, fx.marks), push_room n gap up m tree ms i w d t st inside bt.falls shut bt)

    pub take_gives : (p : List ℕ) (i' w' d' : ℕ) (st' : List ℕ) → length st' ≡ length st
        → ((i' ≡ i + 1) × (w' ≡ w + 1) × (d' ≤ d + 1) × (stack d' st' ≡ cond (not (eqb (get_or ms i 0) 0)) (l ∷ stack d st) (stack d st)))
        × ((take (4 + w * 32 + 32) p ≡ take (4 + w * 32) t ++ take 32 (drop (4 + (gap + i) * 32) t)) × (drop (4 + (gap + i) * 32 + 32) p ≡ drop (4 + (gap + i) * 32 + 32) t))
        → Between n gap up m i' d' tree ms p st' × ((n - i' + (n - i') + d' < n - i + (n - i) + d) × (passing n gap up m tree ms i' w' d' p st' ≡ passing n gap up m tree ms i w d t st))
    take_gives p i' w' d' st' k e =
        let s = rw at-l at e.0.3 in (
          take-between n gap up m tree ms i w d t st inside bt.falls shut p fx.size fx.marks tk-room e.1.0 e.1.1 i' w' d' st' e.0.0 e.0.1 s bt k,
          (omega (arith, e.0.0, e.0.2, inside), take_same n gap up m tree ms i w d t st inside bt.falls shut p fx.size fx.marks tk-room e.1.0 e.1.1 i' w' d' st' e.0.0 e.0.1 s),
        )

-- the tree in front
module _ (n gap m i w : ℕ) (t ms tree : List ℕ) (fx : Fixed n gap m t ms tree) (inside : i < n) where
  C : List (List ℕ)
  C = cond (not (eqb (get_or ms i 0) 0)) (raise (get_or t (4 + (gap + i) * 32) 0) (chunks m tree)) []

  tail : List (List ℕ)
  tail = in_front m tree (drop (i + 1) ms) (rest n gap (i + 1) t)

  front_next : in_front m tree (drop i ms) (rest n gap i t) ≡ C ++ (take 32 (drop (4 + (gap + i) * 32) t) ∷ tail)
  unfolding insert_in_front C tail
  front_next =
      let h : i < length ms = omega (arith, fx.marks) in
      rw (rest_cons n gap i t inside, marks_drop ms i h, level_first (4 + (gap + i) * 32) t)

  module _ (done : AtDone (λ r. Shallow 0 m tree (level r)) (marks_of (drop i ms)) (rest n gap i t)) (total : length (passing_front n gap m tree ms i w t) ≡ n + gap) where
    room-eq : w + (length C + suc (length tail)) ≡ n + gap
    room-eq = ap (λ (z : ℕ). w + z) (sym (ap length front_next ∙ length-append C (take 32 (drop (4 + (gap + i) * 32) t) ∷ tail))) ∙ sym (whole_length w t _) ∙ total

    tail-long : n - (i + 1) ≤ length tail
    unfolding tail
    tail-long = omega (arith, insert_in_front-longer level (λ r. raise (level r) (chunks m tree)) (marks_of (drop (i + 1) ms)) (rest n gap (i + 1) t), length_rest n gap (i + 1) t)

    length-C : (get_or ms i 0 ≡ 0 → ⊥) → length C ≡ m
    unfolding C
    length-C z = rw (ne_eqb (get_or ms i 0) 0 z) (length-raise _ (chunks m tree) ∙ length-chunks m tree)

    pub front-asks : (l : ℕ) → l ≡ get_or t (4 + (gap + i) * 32) 0
        → ((w ≤ gap + i) × (4 + (gap + i) * 32 ≤ length t) × (m * 32 ≤ length tree) × (i < length ms))
        × (((get_or ms i 0 ≡ 0 → ⊥) → w + m ≤ gap + i) × ((get_or ms i 0 ≡ 0 → ⊥) → Shallow 0 m tree l))
    front-asks l el = (
      (omega (arith, room-eq, tail-long), omega (arith, fx.size), fx.whole, omega (arith, fx.marks)),
      ((λ z. omega (arith, room-eq, tail-long, length-C z)), λ z. rw el ((rest_done n gap i t inside (Shallow 0 m tree) ms (omega (arith, fx.marks)) done).0 (rw (ne_eqb (get_or ms i 0) 0 z)))),
    )

    module _ (p : ℕ) (t1 t2 : List ℕ) (len : length t1 ≡ length t) (at : p ≤ gap + i)
        (e1 : chunks p (drop 4 t1) ≡ chunks w (drop 4 t) ++ cond (not (eqb (get_or ms i 0) 0)) (raise (get_or t (4 + (gap + i) * 32) 0) (chunks m tree)) [])
        (b1 : drop (4 + (gap + i) * 32) t1 ≡ drop (4 + (gap + i) * 32) t)
        (e2 : take (4 + p * 32 + 32) t2 ≡ take (4 + p * 32) t1 ++ take 32 (drop (4 + (gap + i) * 32) t1))
        (b2 : drop (4 + (gap + i) * 32 + 32) t2 ≡ drop (4 + (gap + i) * 32 + 32) t1) where
      rest-2 : rest n gap (i + 1) t2 ≡ rest n gap (i + 1) t
      rest-2 =
          rest-same n gap (i + 1) (4 + (gap + i) * 32 + 32) t1 t2 (omega arith) b2 ∙ rest-same n gap (i + 1) (4 + (gap + i) * 32) t t1 (omega arith) b1

      pub front_done : AtDone (λ r. Shallow 0 m tree (level r)) (marks_of (drop (i + 1) ms)) (rest n gap (i + 1) t2)
      front_done = rw rest-2 (rest_done n gap i t inside (Shallow 0 m tree) ms (omega (arith, fx.marks)) done).1

      pub front_same : passing_front n gap m tree ms (i + 1) (p + 1) t2 ≡ passing_front n gap m tree ms i w t
      unfolding C tail
      front_same =
          let o = one_more p t1 t2 (take 32 (drop (4 + (gap + i) * 32) t1)) (omega (arith, fx.size)) e2 in
          rw (o, rest-2, e1, b1, front_next, append_assoc, append_assoc)

-- the tree in front of one record
pub with_tree : (b l w m : ℕ) (t p tree : List ℕ) → (b ≡ 0 → ⊥) → chunks (w + m) (drop 4 p) ≡ chunks w (drop 4 t) ++ raise l (chunks m tree)
    → chunks (w + m) (drop 4 p) ≡ chunks w (drop 4 t) ++ cond (not (eqb b 0)) (raise l (chunks m tree)) []
with_tree b l w m t p tree z e = rw (ne_eqb b 0 z) e

pub no_tree : (b l w m : ℕ) (t tree : List ℕ) → b ≡ 0 → chunks w (drop 4 t) ≡ chunks w (drop 4 t) ++ cond (not (eqb b 0)) (raise l (chunks m tree)) []
no_tree b l w m t tree z = rw (eq-eqb b 0 z) (sym (append-nil _))
