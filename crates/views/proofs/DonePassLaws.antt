-- The pass that marks what a change does: its step and its end, and the marks once those of policy words are cleared. Assumes nothing.
use Prim.Native.Nat.{ℕ, zero, suc, ◌+◌, ◌*◌, ◌-◌, ◌%◌, ◌≤◌, ◌<◌}
use mathlib.Core.Bool.{Bool, true, false, cond, not, ◌&&◌, and-true}
use mathlib.Core.Path.{◌≡◌, refl, sym, ap, ap₂, ◌∙◌, fun_ext}
use mathlib.Core.List.{List, ◌∷◌, ◌++◌, map}
use native.Mathlib.Numerals.{add-one}
use native.Mathlib.Nat.{sub-zero, zero-add}
use native.Mathlib.Omega.{arith}
use lib.Dec.{eqb, ltb}
use lib.ListN.{length, take, drop, get_or, set, length-set, length-map, replicate, get_or-replicate, take-append-drop, get_or-append}
use lib.Seq.{drop-drop, get_or-drop, drop_at}
use Rattle.rights.specs.Marks.{bit, marks_of, each_from}
use Rattle.rights.specs.Policy.{read, insert, update}
use Rattle.rights.specs.Rights.{holds}
use Rattle.rights.specs.Table.{record_at, level, label, count}
use Rattle.rights.specs.How.Automaton.{Each}
use Rattle.rights.specs.How.Selection.{Marked}
use Rattle.rights.proofs.ListLaws.{by_case}
use Rattle.rights.proofs.PassLaws.{marked_list}
use Rattle.views.specs.Shown.{at_parent, nearest_first}
use Rattle.views.specs.Done.{does, asked_of, done_marks}
use Rattle.views.specs.How.Numbers.{shown_by_numbers, by_numbers, asks_word}
use Rattle.views.specs.declared.done.Change.{Change}
use Rattle.views.specs.declared.done.Change.TheVariants.{Rename, Update, Append, Before, After, Remove, Window}
use Rattle.views.proofs.FillLaws.{push_take, push_drop, filled}
use Rattle.rights.proofs.MarkLaws.{each_step, each_end, each_at, each-length}
use Rattle.views.proofs.MarkLaws.{shown-step, marks_step}
use Rattle.views.proofs.StoredLaws.{level_at_lem}

pub set-bit : (x : ℕ) (b : Bool) → x ≡ bit b → not (eqb x 0) ≡ b
set-bit x true e = rw e
set-bit x false e = rw e

-- a slot a level: what f says of the node above
module _ (lv : ℕ → ℕ) (f : ℕ → Bool) where
  abbrev pub Slots : List Bool → ℕ → Type 0
  Slots a i = (l : ℕ) → l < 16 → get_or a l false ≡ at_parent false (nearest_first (λ k. (lv k, f k)) i) l

  pub slots_first : Slots (replicate 16 false) 0
  unfolding at_parent nearest_first
  slots_first l h = get_or-replicate 16 l false false h

  pub slots_next : (a a' : List Bool) (i k : ℕ) (u : Bool) → k ≡ lv i → u ≡ f i → Slots a i
      → ((l : ℕ) → l < 16 → get_or a' l false ≡ cond (ltb k l) u (get_or a l false)) → Slots a' (i + 1)
  unfolding at_parent nearest_first
  slots_next a a' i k u p q inv g l h =
      g l h
      ∙ rw (p, q, inv l h, add-one i)
      (by_case (ltb (lv i) l) (λ e. rw e) (λ e. rw e))

-- the next of the marks
mark_next : (i : ℕ) (s tl : List Bool) (b : Bool) → drop i s ≡ b ∷ tl → (get_or s i false ≡ b) × (drop (i + 1) s ≡ tl)
mark_next i s tl b e =
    let z : i + 0 ≡ i = omega arith in
    ((rw z at (sym (get_or-drop i s 0 false))) ∙ ap (λ l. get_or l 0 false) e, sym (drop-drop 1 i s) ∙ ap (drop 1) e)

module _ (c : Change) (word : List ℕ → Bool) (t ss xs m d₀ : List ℕ) (n : ℕ) where
  abbrev shown_marks : List Bool
  shown_marks = shown_by_numbers xs n 0

  abbrev selected_marks : List Bool
  selected_marks = by_numbers xs (marks_of m) n 0

  abbrev pub is_done_at : ℕ → Bool
  is_done_at i = does c (asked_of word t ss shown_marks selected_marks i)

  abbrev pub level_in : ℕ → ℕ
  level_in k = level (record_at t k)

  abbrev pub selected_in : ℕ → Bool
  selected_in k = get_or selected_marks k false

  abbrev pub insert_in : ℕ → Bool
  insert_in k = holds insert (get_or ss k 0)

  pub record Marking (o : List ℕ) (a b : List Bool) (j i : ℕ) : Type 0 where
    pub within : i ≤ n
    pub behind : j ≤ i
    pub size : length o ≡ length d₀
    pub after : drop i o ≡ drop i d₀
    pub chosen : length a ≡ 16
    pub granting : length b ≡ 16
    pub chosen_is : Slots level_in selected_in a i
    pub granting_is : Slots level_in insert_in b i
    pub shown-is : drop i shown_marks ≡ shown_by_numbers (drop j xs) (n - i) i
    pub selected-is : drop i selected_marks ≡ by_numbers (drop j xs) (drop j (marks_of m)) (n - i) i
    pub written : take i o ++ map bit (each_from is_done_at i (n - i)) ≡ map bit (each_from is_done_at 0 n)

  -- what is asked of a node is what the pass finds
  found : (i k s : ℕ) (on sel up may z : Bool) → k ≡ level_in i → s ≡ get_or ss i 0 → on ≡ get_or shown_marks i false → sel ≡ selected_in i
      → up ≡ at_parent false (nearest_first (λ j. (level_in j, selected_in j)) i) (level_in i)
      → may ≡ at_parent false (nearest_first (λ j. (level_in j, insert_in j)) i) (level_in i)
      → z ≡ does c (record { level = k; rights = s; shown = on; selected = sel; word = word (label (record_at t i)); parent_selected = up; parent_insert = may })
      → z ≡ is_done_at i
  found i k s on sel up may z p q r e u w x = x ∙ rw (p, q, r, e, u, w) refl

  pub marking_more : (o : List ℕ) (a b a' b' : List Bool) (j i k e v : ℕ) (on sel z : Bool) → i < n → n ≤ length d₀
      → get_or t (4 + i * 32) 0 < 12
      → k ≡ get_or t (4 + i * 32) 0
      → Marking o a b j i
      → on ≡ (ltb j (length xs) && eqb (get_or xs j 0 % 16384) i)
      → sel ≡ (on && not (eqb (get_or m j 0) 0))
      → z ≡ does c (record {
        level = get_or t (4 + i * 32) 0;
        rights = get_or ss i 0;
        shown = on;
        selected = sel;
        word = word (label (record_at t i));
        parent_selected = get_or a k false;
        parent_insert = get_or b k false;
      })
      → v ≡ bit z
      → (length a' ≡ 16) × ((l : ℕ) → l < 16 → get_or a' l false ≡ cond (ltb k l) sel (get_or a l false))
      → (length b' ≡ 16) × ((l : ℕ) → l < 16 → get_or b' l false ≡ cond (ltb k l) (insert_in i) (get_or b l false))
      → e ≡ cond on (j + 1) j
      → Marking (set o i v) a' b' e (i + 1)
  marking_more o a b a' b' j i k e v on sel z h hd low ke g p q y vv ga gb ee =
      let lv : get_or t (4 + i * 32) 0 ≡ level_in i = sym (level_at_lem t i) in
      let kl : k ≡ level_in i = ke ∙ lv in
      let size = g.size in
      let sn = mark_next i shown_marks (shown_by_numbers (drop e xs) (n - (i + 1)) (i + 1)) on (g.shown-is ∙ shown-step xs n j i e on h p ee) in
      let mn = mark_next i selected_marks (by_numbers (drop e xs) (drop e (marks_of m)) (n - (i + 1)) (i + 1)) sel (g.selected-is ∙ marks_step xs n j i e on h p ee m sel q) in
      let se : sel ≡ selected_in i = sym mn.0 in
      let ue : get_or a k false ≡ at_parent false (nearest_first (λ j. (level_in j, selected_in j)) i) (level_in i) = g.chosen_is k (omega arith) ∙ ap (at_parent false (nearest_first (λ j. (level_in j, selected_in j)) i)) kl in
      let me : get_or b k false ≡ at_parent false (nearest_first (λ j. (level_in j, insert_in j)) i) (level_in i) = g.granting_is k (omega arith) ∙ ap (at_parent false (nearest_first (λ j. (level_in j, insert_in j)) i)) kl in
      let f : z ≡ is_done_at i = found i (get_or t (4 + i * 32) 0) (get_or ss i 0) on sel _ _ z lv refl (sym sn.0) se ue me y in
      record {
        within = omega arith;
        behind = by_case on (λ o. omega (arith, g.behind, rw o at ee)) (λ o. omega (arith, g.behind, rw o at ee));
        size = length-set o i v ∙ size;
        after = push_drop o i v d₀ g.after;
        chosen = ga.0;
        granting = gb.0;
        chosen_is = slots_next level_in selected_in a a' i k sel kl se g.chosen_is ga.1;
        granting_is = slots_next level_in insert_in b b' i k (insert_in i) kl refl g.granting_is gb.1;
        shown-is = sn.1;
        selected-is = mn.1;
        written =
            sym
            (push_take o i v (omega arith)
            (ap (map bit) (each_step is_done_at n i h) ∙ ap (λ k. k ∷ map bit (each_from is_done_at (i + 1) (n - (i + 1)))) (sym (vv ∙ ap bit f))))
            ∙ g.written;
      }

  pub marking_start : Marking d₀ (replicate 16 false) (replicate 16 false) 0 0
  marking_start =
      record {
        within = omega arith;
        behind = omega arith;
        size = refl;
        after = refl;
        chosen = refl;
        granting = refl;
        chosen_is = slots_first level_in selected_in;
        granting_is = slots_first level_in insert_in;
        shown-is = ap (λ k. shown_by_numbers xs k 0) (sym (sub-zero n));
        selected-is = ap (λ k. by_numbers xs (marks_of m) k 0) (sym (sub-zero n));
        written = ap (λ k. map bit (each_from is_done_at 0 k)) (sub-zero n);
      }

  marking_end : (o : List ℕ) (a b : List Bool) (j i : ℕ) → n ≤ i → Marking o a b j i → o ≡ map bit (each_from is_done_at 0 n) ++ drop n d₀
  marking_end o a b j i h g =
      let k = g.within in
      let e : i ≡ n = omega arith in
      filled o d₀ (map bit (each_from is_done_at 0 n)) n
      (ap (λ l. take n o ++ map bit l) (sym (each_end is_done_at n n (omega arith))) ∙ (rw e at g.written))
      (rw e at g.after)

  pub marking_gives : (o : List ℕ) (a b : List Bool) (j i : ℕ) → n ≡ count t → n ≤ i → Marking o a b j i
      → o ≡ map bit (done_marks c word t ss (shown_by_numbers xs (count t) 0) (by_numbers xs (marks_of m) (count t) 0)) ++ drop (count t) d₀
  marking_gives o a b j i e h g = rw e at (marking_end o a b j i h g)

-- Policy words: a change that asks for them does what it does whatever the label, but for policy words; the others do not look at labels
unless : (s r u w : Bool) → s && (r && (u && not w)) ≡ (s && (r && (u && true))) && not w
unless true true true w = refl
unless true true false w = refl
unless true false u w = refl
unless false r u w = refl

map_each : (f : ℕ → Bool) (i n : ℕ) → map bit (each_from f i n) ≡ each_from (λ k. bit (f k)) i n
unfolding each_from
map_each f i zero = refl
map_each f i (suc n) = ap (λ l. bit (f i) ∷ l) (map_each f (suc i) n)

module _ (word : List ℕ → Bool) (t ss : List ℕ) (bs ms : List Bool) where
  abbrev does_where : (List ℕ → Bool) → Change → ℕ → Bool
  does_where w c i = does c (asked_of w t ss bs ms i)

  abbrev word_at : ℕ → Bool
  word_at i = word (label (record_at t i))

  but_words : (c : Change) (i : ℕ) → does_where word c i ≡ does_where (λ _. false) c i && not (asks_word c && word_at i)
  but_words Rename i = unless (get_or ms i false) (holds read (get_or ss i 0)) (holds update (get_or ss i 0)) (word_at i)
  but_words Update i = unless ((asked_of word t ss bs ms i).shown && (asked_of word t ss bs ms i).parent_selected) (holds read (get_or ss i 0)) (holds update (get_or ss i 0)) (word_at i)
  but_words Append i = sym (and-true _)
  but_words Before i = sym (and-true _)
  but_words After i = sym (and-true _)
  but_words Remove i = sym (and-true _)
  but_words Window i = sym (and-true _)

  pub labels_unasked : (c : Change) → asks_word c ≡ false → done_marks c (λ _. false) t ss bs ms ≡ done_marks c word t ss bs ms
  labels_unasked c e = ap (λ f. each_from f 0 (count t)) (fun_ext (λ i. sym (but_words c i ∙ rw e (and-true _))))

  pub words_unmarked : (c : Change) → asks_word c ≡ true → (d₀ d d' : List ℕ) → count t ≤ length d
      → d ≡ map bit (done_marks c (λ _. false) t ss bs ms) ++ drop (count t) d₀
      → Each (count t) d d' (λ i x. bit (not (eqb x 0) && not (word_at i)))
      → d' ≡ map bit (done_marks c word t ss bs ms) ++ drop (count t) d₀
  unfolding Marked
  words_unmarked c asks d₀ d d' h e r =
      let n = count t in
      let f = does_where (λ _. false) c in
      let long : length (map bit (each_from f 0 n)) ≡ n = length-map (each_from f 0 n) bit ∙ each-length f 0 n in
      let was : (i : ℕ) → i < n → get_or d i 0 ≡ bit (f i) =
      λ i k. ap (λ (l : List ℕ). get_or l i 0) e ∙ get_or-append (map bit (each_from f 0 n)) (drop n d₀) 0 i (rw long k)
      ∙ ap (λ (l : List ℕ). get_or l i 0) (map_each f 0 n) ∙ each_at (λ j. bit (f j)) 0 0 n i k ∙ ap (λ (j : ℕ). bit (f j)) (zero-add i) in
      let is : Marked d' (does_where word c) n =
      λ i k.
      let but : does_where word c i ≡ f i && not (word_at i) = rw asks at (but_words c i) in
      r.at i k ∙ ap bit (ap (λ (b : Bool). b && not (word_at i)) (set-bit (get_or d i 0) (f i) (was i k)) ∙ sym but) in
      sym (take-append-drop n d')
      ∙ ap₂ ◌++◌ (marked_list d' (does_where word c) n (omega (arith, h, r.long)) is) (r.rest ∙ ap (drop n) e ∙ drop_at (map bit (each_from f 0 n)) (drop n d₀) n long)
