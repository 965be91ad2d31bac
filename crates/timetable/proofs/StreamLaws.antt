-- What is written, and what is handed over, joined from its parts. Assumes nothing.
use Prim.Native.Nat.{ℕ, ◌+◌, ◌-◌, ◌≤◌, ◌<◌}
use mathlib.Core.Path.{◌≡◌, refl, sym, ap, subst, ◌∙◌}
use mathlib.Core.Bool.{Bool, true, false}
use mathlib.Core.List.{List, [], ◌∷◌, ◌++◌, append_assoc, append-nil}
use mathlib.Core.Logic.{◌⊎◌, inl, inr}
use native.Mathlib.Omega.{arith}
use native.Mathlib.Numerals.{add-one}
use borrow.Author.Tests.{leb-true, le-leb, lt-leb}
use lib.Dec.{leb}
use lib.ListN.{length, get_or, take, drop, length-append, take-append-drop}
use lib.Seq.{take-add, take_all, take-suc, take-append_seam, length-take-le}
use Rattle.std.specs.Prelude.{Option, None, Some, Result, Ok, Err}
use Rattle.std.specs.Result.{result_unwrap_or}
use Rattle.std.specs.Io.KnownBytes.{Appends, Consumes, Keeps, IsAtEnd, WriteAppends}
use Rattle.std.proofs.KnownBytes.{Appends-nil, Appends-trans, Appends-kept, Consumes-nil, Consumes-trans, Consumes-kept}
use Rattle.std.proofs.lemmas.List.{take-take}
use Rattle.rights.proofs.ListLaws.{by_case}
use Rattle.timetable.specs.Program.{input_max, area_bytes, lines_from, replies_from, replies_to, printed_all, empty_state, empty_table, answers_to}
use Rattle.timetable.specs.Streams.{Writes, Answers, AnswersWhole}
use Rattle.timetable.specs.How.Bytes.{Turned, LinesRead}
use Rattle.timetable.specs.How.Run.{Line, short, too_long, ended, line_in, Prints, Run, run_in, line_ended, overflow, byte_taken, byte_hands, chunk_taken, chunk_hands, handed, written, chunks_taken, joined, last_hands, run_hands, reads_hand, start}
use Rattle.timetable.proofs.ByteLaws.{put_ends}
use Rattle.timetable.proofs.ProgramLaws.{chunks-answered}

-- true is not false
pub no_both : {P : Type 0} {b : Bool} → b ≡ true → b ≡ false → P
no_both p q = let z : true ≡ false = sym p ∙ q in let y : ◌≡◌ {A = ℕ} 0 1 = cc in absurd (omega arith)

-- Writes

module _ (a b : Option (List ℕ)) where
  pub writes_all : (bs : List ℕ) (all : Bool) → Appends a b bs → Writes a b bs all
  writes_all bs all p = record { front = bs; rest = []; parts = sym (append-nil bs); grown = p; whole = λ e. refl }

  pub writes_part : (front rest : List ℕ) → Appends a b front → Writes a b (front ++ rest) false
  writes_part front rest p = record { front = front; rest = rest; parts = refl; grown = p; whole = λ e. no_both e refl }

  pub writes_whole : {bs : List ℕ} {all : Bool} → Writes a b bs all → all ≡ true → Appends a b bs
  writes_whole {bs} w e = let q : bs ≡ w.front = w.parts ∙ ap (w.front ++◌) (w.whole e) ∙ append-nil w.front in rw q w.grown

  -- what was cut short is cut short of more
  pub writes_cut : {bs : List ℕ} {all : Bool} → Writes a b bs all → (more : List ℕ) → Writes a b (bs ++ more) false
  writes_cut w more = record {
    front = w.front;
    rest = w.rest ++ more;
    parts = ap (λ l. l ++ more) w.parts ∙ append_assoc w.front w.rest more;
    grown = w.grown;
    whole = λ e. no_both e refl;
  }

pub writes_as : {a b : Option (List ℕ)} {bs ds : List ℕ} {all : Bool} → bs ≡ ds → Writes a b ds all → Writes a b bs all
writes_as {a} {b} {bs} {ds} {all} e w = subst (λ l. Writes a b l all) (sym e) w

pub writes_at : {a b : Option (List ℕ)} {bs : List ℕ} {all all' : Bool} → all ≡ all' → Writes a b bs all → Writes a b bs all'
writes_at {a} {b} {bs} e w = subst (Writes a b bs) e w

pub writes_none : (a : Option (List ℕ)) (all : Bool) → Writes a a [] all
writes_none a all = writes_all a a [] all (Appends-nil a)

pub writes_then : (a b c : Option (List ℕ)) (xs : List ℕ) {ys : List ℕ} {all : Bool} → Appends a b xs → Writes b c ys all → Writes a c (xs ++ ys) all
writes_then a b c xs p w = record {
  front = xs ++ w.front;
  rest = w.rest;
  parts = ap (xs ++◌) w.parts ∙ sym (append_assoc xs w.front w.rest);
  grown = Appends-trans a b c xs w.front p w.grown;
  whole = w.whole;
}

-- one call of `write`, of which a failure counts as 0 bytes
pub write_took : {E : Type 0} (a b c : Option (List ℕ)) (front part : List ℕ) (r : Result ℕ E) → Appends a b front → WriteAppends b c r part
    → Appends a c (front ++ take (result_unwrap_or r 0) part)
write_took a b c front part (Ok n) p q = Appends-trans a b c front (take n part) p q
write_took a b c front part (Err e) p q = Appends-trans a b c front [] p (Appends-kept b b c [] (Appends-nil b) q)

-- the bytes that wait, with `done` of them written
module _ (out : List ℕ) (done held : ℕ) (within : done ≤ held) where
  pub took_more : (took : ℕ) → done + took ≤ held → take done out ++ take took (take (held - done) (drop done out)) ≡ take (done + took) out
  took_more took h = ap (take done out ++◌) (take-take took (held - done) (drop done out) (omega arith)) ∙ sym (take-add done took out)

  pub took_part : take held out ≡ take done out ++ take (held - done) (drop done out)
  took_part = let e : held ≡ done + (held - done) = omega arith in ap (λ n. take n out) e ∙ take-add done (held - done) out

  module _ {E : Type 0} (a b c : Option (List ℕ)) (r : Result ℕ E) (took : ℕ) (e : took ≡ result_unwrap_or r 0) (p : Appends a b (take done out))
      (q : WriteAppends b c r (take (held - done) (drop done out))) where
    pub write_more : done + took ≤ held → Appends a c (take (done + took) out)
    write_more h =
        let s : Appends a c (take done out ++ take took (take (held - done) (drop done out))) = rw e (write_took a b c (take done out) (take (held - done) (drop done out)) r p q) in
        subst (Appends a c) (took_more took h) s

    pub write_short : took ≡ 0 → Writes a c (take held out) false
    write_short z =
        let s : Appends a c (take (done + 0) out) = subst (λ k. Appends a c (take (done + k) out)) z (write_more (omega (arith, z))) in
        let n : done + 0 ≡ done = omega arith in
        subst (λ bs. Writes a c bs false) (sym took_part) (writes_part a c (take done out) (take (held - done) (drop done out)) (subst (λ k. Appends a c (take k out)) n s))

-- What is handed over

pub handed_snoc : (m : Run) (bs : List ℕ) (b : ℕ) → handed m (bs ++ (b ∷ [])) ≡ handed m bs ++ byte_hands (chunk_taken m bs) b
unfolding handed chunk_taken
handed_snoc m [] b = append-nil (byte_hands m b)
handed_snoc m (a ∷ bs) b = ap (byte_hands m a ++◌) (handed_snoc (byte_taken m a) bs b) ∙ sym (append_assoc (byte_hands m a) (handed (byte_taken m a) bs) _)

pub handed_append : (m : Run) (bs cs : List ℕ) → handed m (bs ++ cs) ≡ handed m bs ++ handed (chunk_taken m bs) cs
unfolding handed chunk_taken
handed_append m [] cs = refl
handed_append m (b ∷ bs) cs = ap (byte_hands m b ++◌) (handed_append (byte_taken m b) bs cs) ∙ sym (append_assoc (byte_hands m b) (handed (byte_taken m b) bs) _)

pub handed_then_waits : (m : Run) (bs : List ℕ) → chunk_hands m bs ≡ handed m bs ++ (chunk_taken m bs).waits
unfolding handed chunk_hands chunk_taken
handed_then_waits m [] = refl
handed_then_waits m (b ∷ bs) = ap (byte_hands m b ++◌) (handed_then_waits (byte_taken m b) bs) ∙ sym (append_assoc (byte_hands m b) (handed (byte_taken m b) bs) _)

-- after one byte more of a chunk
module _ (m n : Run) (chunk : List ℕ) (i : ℕ) (so_far : n ≡ chunk_taken m (take i chunk)) (h : i < length chunk) where
  pub handed_more : handed m (take (i + 1) chunk) ≡ handed m (take i chunk) ++ byte_hands n (get_or chunk i 0)
  handed_more = rw (add-one i, take-suc chunk i 0 h, so_far) (handed_snoc m (take i chunk) (get_or chunk i 0))

  pub handed_cut : handed m chunk ≡ (handed m (take i chunk) ++ byte_hands n (get_or chunk i 0)) ++ handed (chunk_taken m (take (i + 1) chunk)) (drop (i + 1) chunk)
  handed_cut =
      ap (handed m) (sym (take-append-drop (i + 1) chunk)) ∙ handed_append m (take (i + 1) chunk) (drop (i + 1) chunk)
      ∙ ap (λ l. l ++ handed (chunk_taken m (take (i + 1) chunk)) (drop (i + 1) chunk)) handed_more

pub reads_snoc : (m : Run) (cs : List (List ℕ)) (c : List ℕ) → reads_hand m (cs ++ (c ∷ [])) ≡ reads_hand m cs ++ chunk_hands (chunks_taken m cs) c
unfolding reads_hand chunks_taken
reads_snoc m [] c = append-nil (chunk_hands m c)
reads_snoc m (d ∷ cs) c = ap (chunk_hands m d ++◌) (reads_snoc (written (chunk_taken m d)) cs c) ∙ sym (append_assoc (chunk_hands m d) (reads_hand (written (chunk_taken m d)) cs) _)

pub reads_then_last : (m : Run) (cs : List (List ℕ)) → run_hands m cs ≡ reads_hand m cs ++ last_hands (chunks_taken m cs) (chunks_taken m cs).line
unfolding reads_hand run_hands chunks_taken
reads_then_last m [] = refl
reads_then_last m (c ∷ cs) = ap (chunk_hands m c ++◌) (reads_then_last (written (chunk_taken m c)) cs) ∙ sym (append_assoc (chunk_hands m c) (reads_hand (written (chunk_taken m c)) cs) _)

-- what waits, where the next answer fits behind it, and where it might not
pub overflow_fits : (w : List ℕ) → length w ≤ area_bytes → overflow w ≡ []
overflow_fits w h = rw (le-leb (length w) area_bytes h)

pub overflow_full : (w : List ℕ) → area_bytes < length w → overflow w ≡ w
overflow_full w h = rw (lt-leb (length w) area_bytes h)

-- What a chunk hands over is written, byte by byte.
module _ (m n : Run) (chunk : List ℕ) (i : ℕ) (so_far : n ≡ chunk_taken m (take i chunk)) (h : i < length chunk) (a b c : Option (List ℕ))
    (p : Appends a b (handed m (take i chunk))) {all : Bool} (w : Writes b c (byte_hands n (get_or chunk i 0)) all) where
  pub chunk_writes_more : all ≡ true → Appends a c (handed m (take (i + 1) chunk))
  chunk_writes_more e =
      subst (Appends a c) (sym (handed_more m n chunk i so_far h))
      (Appends-trans a b c (handed m (take i chunk)) (byte_hands n (get_or chunk i 0)) p (writes_whole b c w e))

  pub chunk_writes_cut : all ≡ false → Writes a c (handed m chunk) all
  chunk_writes_cut e =
      subst (λ o. Writes a c (handed m chunk) o) (sym e)
      (subst (λ l. Writes a c l false) (sym (handed_cut m n chunk i so_far h))
      (writes_cut a c (writes_then a b c (handed m (take i chunk)) p w) (handed (chunk_taken m (take (i + 1) chunk)) (drop (i + 1) chunk))))

pub chunk_writes_all : (m : Run) (chunk : List ℕ) (i : ℕ) (a b : Option (List ℕ)) → Appends a b (handed m (take i chunk)) → length chunk ≤ i → Writes a b (handed m chunk) true
chunk_writes_all m chunk i a b p h = writes_all a b (handed m chunk) true (subst (λ l. Appends a b (handed m l)) (take_all i chunk h) p)

-- One read

pub part_whole : (chunk : List ℕ) (got : ℕ) → take (got - 0) (drop 0 chunk) ≡ take got chunk
part_whole chunk got = let z : got - 0 ≡ got = omega arith in rw z refl

-- what it hands over is written, and then what waits behind it
module _ (m : Run) (chunk : List ℕ) (got : ℕ) {a b : Option (List ℕ)} where
  pub turn_writes : {c : Option (List ℕ)} {all : Bool} {n : Run} → n ≡ chunk_taken m (take (got - 0) (drop 0 chunk))
      → Appends a b (handed m (take (got - 0) (drop 0 chunk))) → Writes b c n.waits all → Writes a c (chunk_hands m (take got chunk)) all
  turn_writes {c} {all} {n} e p w =
      let k = take (got - 0) (drop 0 chunk) in
      writes_as (ap (chunk_hands m) (sym (part_whole chunk got)) ∙ handed_then_waits m k ∙ ap (λ (r : Run). handed m k ++ r.waits) (sym e))
      (writes_then a b c (handed m k) p w)

  pub turn_cut : {all : Bool} → Writes a b (handed m (take (got - 0) (drop 0 chunk))) all → Writes a b (chunk_hands m (take got chunk)) false
  turn_cut w =
      let k = take (got - 0) (drop 0 chunk) in
      writes_as (ap (chunk_hands m) (sym (part_whole chunk got)) ∙ handed_then_waits m k) (writes_cut a b w (chunk_taken m k).waits)

-- a read that fails
pub turn_none : (m : Run) → m.waits ≡ [] → (a : Option (List ℕ)) (all : Bool) → Writes a a (chunk_hands m []) all
unfolding chunk_hands
turn_none m e a all = writes_as e (writes_none a all)

pub keeps_brings : (a b : Option (List ℕ)) → Keeps a b → Consumes a b []
keeps_brings a b k = Consumes-kept a a b [] (Consumes-nil a) k

-- The reads so far, with `budget` bytes that may still be read: what they brought is taken, and all that they hand over is written.
pub record BytesSoFar (m : Run) (left left' held held' : Option (List ℕ)) (budget : ℕ) : Type 0 where
  pub chunks : List (List ℕ)
  pub size : length (joined chunks) + budget ≡ input_max
  pub is : m ≡ chunks_taken start chunks
  pub brought : Consumes left left' (joined chunks)
  pub grown : Appends held held' (reads_hand start chunks)

pub bytes_none : (m : Run) → m ≡ start → (left held : Option (List ℕ)) → BytesSoFar m left left held held input_max
unfolding chunks_taken joined reads_hand
bytes_none m e left held = record { chunks = []; size = omega arith; is = e; brought = Consumes-nil left; grown = Appends-nil held }

joined_snoc : (cs : List (List ℕ)) (c : List ℕ) → joined (cs ++ (c ∷ [])) ≡ joined cs ++ c
unfolding joined
joined_snoc [] c = append-nil c
joined_snoc (d ∷ cs) c = ap (d ++◌) (joined_snoc cs c) ∙ sym (append_assoc d (joined cs) c)

chunks_snoc : (m : Run) (cs : List (List ℕ)) (c : List ℕ) → chunks_taken m (cs ++ (c ∷ [])) ≡ written (chunk_taken (chunks_taken m cs) c)
unfolding chunks_taken
chunks_snoc m [] c = refl
chunks_snoc m (d ∷ cs) c = chunks_snoc (written (chunk_taken m d)) cs c

module _ {m m' : Run} {l0 l l' h0 h h' : Option (List ℕ)} {budget room used got : ℕ} {heard open' : Bool}
    (s : BytesSoFar m l0 l h0 h budget) (t : Turned m m' l l' h h' budget room used got heard open') where
  abbrev chunks_now : List (List ℕ)
  chunks_now = s.chunks ++ (t.chunk ∷ [])

  brought_now : Consumes l0 l' (joined chunks_now)
  brought_now = subst (Consumes l0 l') (sym (joined_snoc s.chunks t.chunk)) (Consumes-trans l0 l l' (joined s.chunks) t.chunk s.brought t.brought)

  size_now : length (joined chunks_now) ≡ length (joined s.chunks) + length t.chunk
  size_now = ap length (joined_snoc s.chunks t.chunk) ∙ length-append (joined s.chunks) t.chunk

  writes_now : Writes h0 h' (reads_hand start chunks_now) open'
  writes_now =
      writes_as (reads_snoc start s.chunks t.chunk ∙ ap (λ (r : Run). reads_hand start s.chunks ++ chunk_hands r t.chunk) (sym s.is))
      (writes_then h0 h h' (reads_hand start s.chunks) s.grown t.writes)

  is_now : open' ≡ true → m' ≡ chunks_taken start chunks_now
  is_now o = (t.taken o).0 ∙ ap (λ (r : Run). written (chunk_taken r t.chunk)) s.is ∙ sym (chunks_snoc start s.chunks t.chunk)

  -- another read
  pub bytes_more : (got ≡ 0 → ⊥) → BytesSoFar m' l0 l' h0 h' (budget - got)
  bytes_more more =
      let o : open' ≡ true = by_case open' (λ e. e) (λ e. absurd (more (t.stops e).1)) in
      record {
        chunks = chunks_now;
        size = omega (arith, size_now, s.size, (t.taken o).1, t.within);
        is = is_now o;
        brought = brought_now;
        grown = writes_whole h0 h' writes_now o;
      }

  -- the last one
  pub bytes_last : got ≡ 0 → 0 < budget → LinesRead m' l0 l' h0 h' room used heard open'
  bytes_last none most = record {
    chunks = chunks_now;
    within = omega (arith, size_now, s.size, t.within);
    brought = brought_now;
    ended = λ e area. inr (t.ended e none most area);
    taken = λ o. (is_now o, writes_whole h0 h' writes_now o);
    stops = λ e. ((t.stops e).0, writes_as (reads_then_last start chunks_now) (writes_cut h0 h' writes_now (last_hands (chunks_taken start chunks_now) (chunks_taken start chunks_now).line)));
  }

-- the limit
pub bytes_limit : {m : Run} {l l' h h' : Option (List ℕ)} {budget : ℕ} → BytesSoFar m l l' h h' budget → budget ≤ 0 → (room used : ℕ) → LinesRead m l l' h h' room used true true
bytes_limit s z room used = record {
  chunks = s.chunks;
  within = omega (arith, s.size);
  brought = s.brought;
  ended = λ e area. inl (omega (arith, s.size));
  taken = λ o. (s.is, s.grown);
  stops = λ e. no_both refl e;
}

pub lines_room : {m : Run} {l l' h h' : Option (List ℕ)} {room room' used : ℕ} {heard open' : Bool} → room ≡ room' → LinesRead m l l' h h' room used heard open' → LinesRead m l l' h h' room' used heard open'
lines_room {m} {l} {l'} {h} {h'} {room} {room'} {used} {heard} {open'} e r = subst (λ n. LinesRead m l l' h h' n used heard open') e r

-- The end of the input

last_line_waits : (m : Run) (line : Line) → (line ≡ short [] → ⊥) → last_hands m line ≡ (line_ended m).waits
last_line_waits m (short []) n = absurd (n refl)
last_line_waits m (short (a ∷ line)) n = refl
last_line_waits m too_long n = refl

not_new : (buffer : List ℕ) (used : ℕ) → 0 < used → line_in buffer used ≡ short [] → ⊥
not_new buffer used h =
    by_case (leb used (length buffer))
    (λ e. rw e (λ q. let z : take used buffer ≡ [] = cc in omega (arith, h, length-take-le used buffer (leb-true used (length buffer) e), ap length z)))
    (λ e. rw e (λ q. let z : ◌≡◌ {A = ℕ} 0 1 = cc in omega arith))

-- a last line's answer is what waits at the front of the area
pub last_put : (s t buffer out : List ℕ) (used held : ℕ) {s' t' out' : List ℕ} → 0 < used → Prints (ended s t (line_in buffer used) 65536) 0 out held s' t' out'
    → last_hands (run_in s t buffer used out 0) (line_in buffer used) ≡ take held out'
last_put s t buffer out used held h p =
    last_line_waits (run_in s t buffer used out 0) (line_in buffer used) (not_new buffer used h) ∙ sym (put_ends (ended s t (line_in buffer used) 65536) out held p)

module _ {m : Run} {l l' h h' : Option (List ℕ)} {room used : ℕ} {heard open' : Bool} (r : LinesRead m l l' h h' room used heard open') where
  abbrev pub all_read : List ℕ
  all_read = joined r.chunks

  all_hands : answers_to (joined r.chunks) ≡ reads_hand start r.chunks ++ last_hands (chunks_taken start r.chunks) (chunks_taken start r.chunks).line
  all_hands = sym (chunks-answered (joined r.chunks) r.chunks (sym (take_all input_max (joined r.chunks) r.within))) ∙ reads_then_last start r.chunks

  open_hands : open' ≡ true → answers_to (joined r.chunks) ≡ reads_hand start r.chunks ++ last_hands m m.line
  open_hands o = all_hands ∙ ap (λ (n : Run). reads_hand start r.chunks ++ last_hands n n.line) (sym (r.taken o).0)

  pub last_written : {h'' : Option (List ℕ)} {all : Bool} {bs : List ℕ} → 0 < used → last_hands m m.line ≡ bs → Writes h' h'' bs all → Writes h h'' (answers_to (joined r.chunks)) all
  last_written {h''} pos e w =
      let o : open' ≡ true = by_case open' (λ e. e) (λ e. absurd (omega (arith, pos, (r.stops e).0))) in
      writes_as (open_hands o ∙ ap (reads_hand start r.chunks ++◌) e) (writes_then h h' h'' (reads_hand start r.chunks) (r.taken o).1 w)

  pub none_written : m.line ≡ short [] → Writes h h' (answers_to (joined r.chunks)) open'
  none_written e =
      by_case open'
      (λ o.
      let z : last_hands m m.line ≡ [] = ap (last_hands m) e in
      writes_as (open_hands o ∙ ap (reads_hand start r.chunks ++◌) z ∙ append-nil (reads_hand start r.chunks)) (writes_all h h' (reads_hand start r.chunks) open' (r.taken o).1))
      (λ o. writes_at (sym o) (writes_as (all_hands ∙ sym (reads_then_last start r.chunks)) (r.stops o).1))

  pub answers_read : {h'' : Option (List ℕ)} {all : Bool} → Writes h h'' (answers_to (joined r.chunks)) all → Answers l l' h h'' all
  answers_read w = record { read = joined r.chunks; within = r.within; brought = r.brought; written = w }

-- as many bytes as are read at most are all that counts
answers_within : (xs ys : List ℕ) → take input_max xs ≡ take input_max ys → answers_to xs ≡ answers_to ys
unfolding answers_to replies_to
answers_within xs ys e = ap (λ l. printed_all (replies_from empty_state empty_table (lines_from [] l))) e

whole_input : (l l' h h' : Option (List ℕ)) (read : List ℕ) → Consumes l l' read → length read ≤ input_max → (length read ≡ input_max) ⊎ IsAtEnd l' → Appends h h' (answers_to read) → AnswersWhole l h h'
whole_input None l' h h' read p within e w = tt
whole_input (Some xs) None h h' read p within e w = absurd p
whole_input (Some xs) (Some ys) h h' read p within (inl e) w =
    let q : take input_max (read ++ ys) ≡ read = ap (λ n. take n (read ++ ys)) (sym e) ∙ take-append_seam read ys in
    subst (Appends h h') (answers_within read xs (take_all input_max read within ∙ sym q ∙ ap (take input_max) (sym p))) w
whole_input (Some xs) (Some ys) h h' read p within (inr e) w =
    let q : xs ≡ read = p ∙ ap (read ++◌) e ∙ append-nil read in
    subst (Appends h h') (ap answers_to (sym q)) w

pub answers_whole : {m : Run} {l l' h h' h'' : Option (List ℕ)} {room used : ℕ} {heard open' all : Bool} (r : LinesRead m l l' h h' room used heard open')
    → Writes h h'' (answers_to (joined r.chunks)) all → 0 < room → heard ≡ true → all ≡ true → AnswersWhole l h h''
answers_whole {m} {l} {l'} {h} {h'} {h''} r w area e o = whole_input l l' h h'' (joined r.chunks) r.brought r.within (r.ended e area) (writes_whole h h'' w o)
