-- One byte, one chunk and all reads: what the program's areas hold is the run after them. Assumes nothing.
use Prim.Native.Nat.{ℕ, suc, ◌+◌, ◌-◌, ◌≤◌, ◌<◌}
use mathlib.Core.Path.{◌≡◌, refl, sym, ap, ◌∙◌}
use mathlib.Core.Bool.{cond}
use mathlib.Core.List.{List, [], ◌∷◌, ◌++◌, append_assoc, append-nil}
use mathlib.Core.Logic.{inl, inr}
use native.Mathlib.Omega.{arith}
use native.Mathlib.Numerals.{add-one}
use borrow.Author.Tests.{eq-eqb, ne_eqb, leb-true, le-leb, lt-leb, lt-ltb, le-ltb}
use lib.Dec.{leb}
use lib.ListN.{length, get_or, take, drop, set, length-append, length-set}
use lib.Seq.{take_all, take_at, take-suc, take-suc-set, length-take-le}
use Rattle.rights.proofs.ListLaws.{by_case}
use Rattle.lines.specs.Outcome.{Outcome}
use Rattle.timetable.specs.Program.{input_max, line_feed, empty_state, empty_table, printed}
use Rattle.timetable.specs.How.Run.{Line, short, ended, line_in, Prints, Run, run_in, overflow, byte_taken, byte_hands, chunk_taken, Stops, written, chunks_taken, joined, ReadsAll, start}

-- what was put behind the bytes that wait, waits with them
put_whole : (o : Outcome) (out : List ℕ) (held w : ℕ) {s' t' out' : List ℕ} → held ≤ length out → Prints o held out w s' t' out'
    → (length (take held out ++ printed o.reply) ≡ w) × (take w out' ≡ take held out ++ printed o.reply)
put_whole o out held w {s'} {t'} {out'} h p =
    let size : length (take held out ++ printed o.reply) ≡ w =
    length-append (take held out) (printed o.reply) ∙ omega (arith, length-take-le held out h, p.text.next) in (
      size,
      ap (take w) (p.text.fits p.fits ∙ sym (append_assoc (take held out) (printed o.reply) (drop w out)))
          ∙ take_at (take held out ++ printed o.reply) (drop w out) w size,
    )

-- an answer with nothing before it
pub put_alone : (o : Outcome) (out : List ℕ) (w : ℕ) {s' t' out' : List ℕ} → Prints o 0 out w s' t' out'
    → take (length (take 0 out ++ printed o.reply)) out' ≡ take 0 out ++ printed o.reply
put_alone o out w p = let q = put_whole o out 0 w (omega arith) p in rw q.0 q.1

pub put_ends : (o : Outcome) (out : List ℕ) (w : ℕ) {s' t' out' : List ℕ} → Prints o 0 out w s' t' out' → take w out' ≡ take 0 out ++ printed o.reply
put_ends o out w p = (put_whole o out 0 w (omega arith) p).1

-- where room is made
room_kept : (whole out' : List ℕ) (w h : ℕ) → length whole ≡ w → take w out' ≡ whole → h ≡ cond (leb w 65536) w 0 → take h out' ≡ cond (leb (length whole) 65536) whole []
room_kept whole out' w h size holds e = rw (e, size) (by_case (leb w 65536) (λ q. rw q holds) (λ q. rw q))

pub room_most : (w h : ℕ) → h ≡ cond (leb w 65536) w 0 → h ≤ 65536
room_most w h e = rw e (by_case (leb w 65536) (λ q. rw q (leb-true w 65536 q)) (λ q. rw q (omega arith)))

pub line_new : (buffer : List ℕ) (u : ℕ) → u ≡ 0 → line_in buffer u ≡ short []
line_new buffer u e = rw (e, le-leb 0 (length buffer) (omega arith))

-- A line feed: the answer waits behind what waited, and room is made for the next.
module _ (s t buffer out : List ℕ) (used held b w : ℕ) {s' t' out' : List ℕ} (feed : b ≡ line_feed) (within : held ≤ length out)
    (p : Prints (ended s t (line_in buffer used) 65536) held out w s' t' out') where
  pub feed_taken : (u h : ℕ) → u ≡ 0 → h ≡ cond (leb w 65536) w 0 → run_in s' t' buffer u out' h ≡ byte_taken (run_in s t buffer used out held) b
  unfolding byte_taken
  feed_taken u h new e =
      let q = put_whole (ended s t (line_in buffer used) 65536) out held w within p in
      let k = room_kept (take held out ++ printed (ended s t (line_in buffer used) 65536).reply) out' w h q.0 q.1 e in
      rw (eq-eqb b line_feed feed, p.state, p.table, line_new buffer u new, k)

  -- where too much waits, and is handed over
  pub feed_shut : 65536 < w → run_in s' t' buffer 0 out' 0 ≡ byte_taken (run_in s t buffer used out held) b
  feed_shut o = feed_taken 0 0 refl (rw (lt-leb w 65536 o))

  pub feed_hands_some : 65536 < w → byte_hands (run_in s t buffer used out held) b ≡ [] → ⊥
  unfolding byte_hands
  feed_hands_some o z =
      let q = put_whole (ended s t (line_in buffer used) 65536) out held w within p in
      let k : take held out ++ printed (ended s t (line_in buffer used) 65536).reply ≡ [] = rw (eq-eqb b line_feed feed, q.0, lt-leb w 65536 o) at z in
      omega (arith, o, q.0, ap length k)

  pub feed_hands : byte_hands (run_in s t buffer used out held) b ≡ overflow (take w out')
  unfolding byte_hands
  feed_hands = let q = put_whole (ended s t (line_in buffer used) 65536) out held w within p in rw (eq-eqb b line_feed feed, q.1)

pub other_hands : (m : Run) (b : ℕ) → (b ≡ line_feed → ⊥) → byte_hands m b ≡ []
unfolding byte_hands
other_hands m b other = rw (ne_eqb b line_feed other)

-- Any other byte: the line has one more, or is too long.
module _ (s t buffer out : List ℕ) (used held b : ℕ) (other : b ≡ line_feed → ⊥) (size : length buffer ≡ 1024) where
  pub byte_taken_lem : used < 1024 → run_in s t (set buffer used b) (used + 1) out held ≡ byte_taken (run_in s t buffer used out held) b
  unfolding byte_taken
  byte_taken_lem h =
      let l : length (take used buffer) < 1024 = omega (arith, length-take-le used buffer (omega arith)) in
      rw (ne_eqb b line_feed other, add-one used, length-set buffer used b, le-leb (suc used) (length buffer) (omega arith), le-leb used (length buffer) (omega arith), take-suc-set buffer used b (omega arith), lt-ltb (length (take used buffer)) 1024 l)

  pub byte_too_many : 1024 ≤ used → run_in s t buffer 1025 out held ≡ byte_taken (run_in s t buffer used out held) b
  unfolding byte_taken
  byte_too_many h =
      rw (ne_eqb b line_feed other, lt-leb 1025 (length buffer) (omega arith))
      (ap (λ (l : Line). record { state = s; table = t; line = l; waits = take held out }) (sym (by_case (leb used (length buffer))
      (λ e.
      let l : 1024 ≤ length (take used buffer) = omega (arith, length-take-le used buffer (leb-true used (length buffer) e)) in
      rw (e, le-ltb (length (take used buffer)) 1024 l))
      (λ e. rw e))))

-- A chunk

chunk_snoc : (m : Run) (bs : List ℕ) (b : ℕ) → chunk_taken m (bs ++ (b ∷ [])) ≡ byte_taken (chunk_taken m bs) b
unfolding chunk_taken
chunk_snoc m [] b = refl
chunk_snoc m (a ∷ bs) b = chunk_snoc (byte_taken m a) bs b

module _ (m : Run) (chunk : List ℕ) (i : ℕ) {n p : Run} (so_far : n ≡ chunk_taken m (take i chunk)) where
  pub chunk_more : i < length chunk → p ≡ byte_taken n (get_or chunk i 0) → p ≡ chunk_taken m (take (i + 1) chunk)
  chunk_more h e =
      e ∙ ap (λ (r : Run). byte_taken r (get_or chunk i 0)) so_far ∙ sym (rw (add-one i, take-suc chunk i 0 h) (chunk_snoc m (take i chunk) (get_or chunk i 0)))

  pub chunk_stops : p ≡ byte_taken n (get_or chunk i 0) → (byte_hands n (get_or chunk i 0) ≡ [] → ⊥) → Stops m chunk p
  chunk_stops e some = record {
    at = i;
    is = e ∙ ap (λ (r : Run). byte_taken r (get_or chunk i 0)) so_far;
    hands = λ z. some (ap (λ (r : Run). byte_hands r (get_or chunk i 0)) so_far ∙ z);
  }

pub chunk_whole : (m : Run) (chunk : List ℕ) (i : ℕ) {n : Run} → n ≡ chunk_taken m (take i chunk) → length chunk ≤ i → n ≡ chunk_taken m chunk
chunk_whole m chunk i e h = e ∙ ap (chunk_taken m) (take_all i chunk h)

-- what waited is written, and the areas hold the run without it
pub chunk_written : (m : Run) (chunk : List ℕ) (got : ℕ) {n : Run} → n ≡ chunk_taken m (take (got - 0) (drop 0 chunk)) → written n ≡ written (chunk_taken m (take got chunk))
chunk_written m chunk got {n} e =
    let z : got - 0 ≡ got = omega arith in
    let q : n ≡ chunk_taken m (take got chunk) = rw z at e in
    ap written q

-- The reads, with `left` bytes that may still be read

pub record ReadSoFar (m m' : Run) (left : ℕ) : Type 0 where
  pub chunks : List (List ℕ)
  pub brought : length (joined chunks) + left ≡ input_max
  pub is : m' ≡ chunks_taken m chunks

pub read_none : (s t buffer out : List ℕ) → s ≡ empty_state → t ≡ empty_table → ReadSoFar start (run_in s t buffer 0 out 0) input_max
unfolding chunks_taken joined
read_none s t buffer out p q = record { chunks = []; brought = omega arith; is = rw (p, q, line_new buffer 0 refl) }

pub run_new : (s t buffer out : List ℕ) → s ≡ empty_state → t ≡ empty_table → run_in s t buffer 0 out 0 ≡ start
run_new s t buffer out p q = rw (p, q, line_new buffer 0 refl)

chunks_snoc : (m : Run) (cs : List (List ℕ)) (c : List ℕ) → chunks_taken m (cs ++ (c ∷ [])) ≡ written (chunk_taken (chunks_taken m cs) c)
unfolding chunks_taken
chunks_snoc m [] c = refl
chunks_snoc m (d ∷ cs) c = chunks_snoc (written (chunk_taken m d)) cs c

joined_snoc : (cs : List (List ℕ)) (c : List ℕ) → length (joined (cs ++ (c ∷ []))) ≡ length (joined cs) + length c
unfolding joined
joined_snoc [] c = rw (append-nil c) (omega arith)
joined_snoc (d ∷ cs) c = rw (length-append d (joined (cs ++ (c ∷ []))), length-append d (joined cs), joined_snoc cs c) (omega arith)

chunk_after : {m m' m'' : Run} {left : ℕ} (r : ReadSoFar m m' left) (c : List ℕ) → m'' ≡ written (chunk_taken m' c) → m'' ≡ chunks_taken m (r.chunks ++ (c ∷ []))
chunk_after {m} r c e = e ∙ ap (λ (n : Run). written (chunk_taken n c)) r.is ∙ sym (chunks_snoc m r.chunks c)

-- a read, and one that brings nothing
pub read_more : {m m' m'' : Run} {left : ℕ} → ReadSoFar m m' left → (chunk : List ℕ) (got : ℕ) → got ≤ left → got ≤ length chunk
    → m'' ≡ written (chunk_taken m' (take got chunk)) → ReadSoFar m m'' (left - got)
read_more r chunk got h l e = record {
  chunks = r.chunks ++ (take got chunk ∷ []);
  brought = omega (arith, r.brought, joined_snoc r.chunks (take got chunk), length-take-le got chunk l);
  is = chunk_after r (take got chunk) e;
}

pub read_ended : {m m' m'' : Run} {left : ℕ} → ReadSoFar m m' left → (chunk : List ℕ) (got : ℕ) → got ≡ 0
    → m'' ≡ written (chunk_taken m' (take got chunk)) → (used : ℕ) → ReadsAll m m'' used
read_ended {m} {m'} {m''} r chunk got z e used =
    let q : m'' ≡ written (chunk_taken m' []) = rw z at e in
    record {
      chunks = r.chunks ++ ([] ∷ []);
      within = omega (arith, r.brought, joined_snoc r.chunks []);
      is = inr (chunk_after r [] q, inr (r.chunks, refl));
    }

-- the limit, and a standard output that failed
pub read_all : {m m' : Run} {left : ℕ} → ReadSoFar m m' left → left ≤ 0 → (used : ℕ) → ReadsAll m m' used
read_all r h used = record { chunks = r.chunks; within = omega (arith, r.brought); is = inr (r.is, inl (omega (arith, r.brought))) }

pub read_shut : {m m' : Run} {left : ℕ} → ReadSoFar m m' left → (m'' : Run) (used : ℕ) → used ≡ 0 → ReadsAll m m'' used
read_shut r m'' used e = record { chunks = r.chunks; within = omega (arith, r.brought); is = inl e }
