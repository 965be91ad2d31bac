-- A form's reader, turn by turn, as the code goes through it. Assumes nothing.
use Rattle.std.specs.Prelude.{Option, Some, None}
use Prim.Native.Nat.{ℕ, zero, suc, ◌+◌, ◌-◌, ◌^◌, ◌≤◌, ◌<◌}
use mathlib.Core.Path.{◌≡◌, refl, sym, ap, subst, ◌∙◌}
use mathlib.Core.List.{List, [], ◌∷◌, ◌++◌, map, append_assoc}
use mathlib.Core.Bool.{true, false}
use native.Mathlib.Omega.{arith}
use native.Mathlib.Numerals.{add-one}
use lib.Dec.{eqb, leb}
use lib.ListN.{length, get_or, set, drop, replicate, length-append, length-set}
use Rattle.std.proofs.lemmas.List.{get_or-take}
use lib.Seq.{get_or-set_same, get_or-set_other, get_or-append_seam}
use borrow.Author.Tests.{eqb-true, eqb-false, leb-true, leb-false}
use Rattle.rights.specs.Bytes.{byte_at, all}
use Rattle.rights.specs.Labels.{label_byte}
use Rattle.rights.proofs.ListLaws.{by_case}
use Rattle.rights.proofs.PassLaws.{map_at}
use Rattle.rights.proofs.PathLaws.{inside}
use Rattle.rights.proofs.PathTexts.{and_left}
use Rattle.forms.specs.declared.kind.Kind.{Kind as Coded}
use Rattle.forms.specs.declared.kind.Kind.TheVariants as coded
use Rattle.forms.specs.declared.layout.Word.{Word}
use Rattle.forms.specs.declared.layout.Word.TheVariants as word
use Rattle.forms.specs.declared.layout.Layout.{Layout}
use Rattle.forms.specs.declared.reader.Progress.{Progress}
use Rattle.forms.specs.Layout.{words, stage_of, shape_of, word_at}
use Rattle.forms.specs.How.Codes.{LaidOut, codes_of, kind_number, part_number, by_number, text_number_at, end_by, says_by, area_by}
use Rattle.forms.specs.Part.{run_end}
use Rattle.forms.specs.Kind.{Kind, Label, Path, Tree, Sign, Right, Day, code_of, part_end}
use Rattle.forms.specs.Word.{rights, right_at, label_bytes_at}
use Rattle.forms.specs.Form.{Places, are, none, ◌onTo◌, closes_line, parts_of, place_in, no_form, ends_in, read_form}
use Rattle.forms.specs.How.Reader.{held_to, Reading, Whole, Came, Begun, Moves, area_after, area_in, area_from, FormRead}
use Rattle.forms.proofs.WordLaws.{among-is, numbered-among}

-- A word with its kinds

pub laid_at : {w v : Word} {l : Layout} → w ≡ v → LaidOut w l → LaidOut v l
laid_at e h = rw (← e) h

-- the word's number tells the word
pub word_numbered : (s : List ℕ) (at : ℕ) → by_number word.Other words (text_number_at s at) ≡ word_at s at
unfolding word_at label_byte all
word_numbered s at = numbered-among word.Other words refl s at

-- A shape's kinds by their numbers

pub code_end : (k : Kind) (s : List ℕ) (at : ℕ) → end_by (code_of k) s at ≡ part_end k s at
unfolding end_by
code_end Label s at = refl
code_end Path s at = refl
code_end Tree s at = refl
code_end Sign s at = refl
code_end Right s at = refl
code_end Day s at = refl

code_some : (k : Kind) → code_of k ≡ 0 → ⊥
code_some Label e = omega arith
code_some Path e = omega arith
code_some Tree e = omega arith
code_some Sign e = omega arith
code_some Right e = omega arith
code_some Day e = omega arith

coded_some : (k : Coded) → kind_number k ≡ 0 → ⊥
coded_some coded.Label e = omega arith
coded_some coded.Path e = omega arith
coded_some coded.Tree e = omega arith
coded_some coded.Sign e = omega arith
coded_some coded.Right e = omega arith
coded_some coded.Day e = omega arith

pub zeros : (m j : ℕ) → get_or {A = ℕ} (replicate m 0) j 0 ≡ 0
zeros zero j = refl
zeros (suc m) zero = refl
zeros (suc m) (suc j) = zeros m j

-- where a number stands, a kind does; where 0 stands, the shape is over
module _ (m : ℕ) where
  more_at : (ks : List Kind) (i : ℕ) → (get_or (map code_of ks ++ replicate m 0) i 0 ≡ 0 → ⊥)
      → (k : Kind) × (drop i ks ≡ k ∷ drop (suc i) ks) × (get_or (map code_of ks ++ replicate m 0) i 0 ≡ code_of k) × (i < length ks)
  more_at [] i h = absurd (h (zeros m i))
  more_at (k ∷ ks) zero h = (k, refl, refl, omega arith)
  more_at (k ∷ ks) (suc i) h = let x = more_at ks i h in (x.0, x.1, x.2, omega (arith, x.3))

  over_at : (ks : List Kind) (i : ℕ) → get_or (map code_of ks ++ replicate m 0) i 0 ≡ 0 → drop i ks ≡ []
  over_at [] zero h = refl
  over_at [] (suc i) h = refl
  over_at (k ∷ ks) zero h = absurd (code_some k h)
  over_at (k ∷ ks) (suc i) h = over_at ks i h

pub kind_at : (ks : List Kind) (i : ℕ) → (get_or (codes_of ks) i 0 ≡ 0 → ⊥)
    → (k : Kind) × (drop i ks ≡ k ∷ drop (suc i) ks) × (get_or (codes_of ks) i 0 ≡ code_of k) × (i < length ks)
kind_at ks i h = more_at (1 + (4 - length ks)) ks i h

pub kinds_over : (ks : List Kind) (i : ℕ) → get_or (codes_of ks) i 0 ≡ 0 → drop i ks ≡ []
kinds_over ks i h = over_at (1 + (4 - length ks)) ks i h

-- The places of the parts

onto_none : (p : Places) → [] onTo p ≡ p
onto_none (are es) = refl
onto_none none = refl

onto_onto : (xs ys : List ℕ) (p : Places) → (xs ++ ys) onTo p ≡ xs onTo (ys onTo p)
onto_onto xs ys (are es) = ap are (append_assoc xs ys es)
onto_onto xs ys none = refl

set-under : (xs : List ℕ) (i e : ℕ) → i < length xs → ((j : ℕ) → get_or xs j 0 ≤ e) → (j : ℕ) → get_or (set xs i e) j 0 ≤ e
set-under xs i e l h j =
    by_case (eqb j i)
    (λ b. let q = eqb-true j i b in rw q (omega (arith, get_or-set_same xs i e 0 l)))
    (λ b. omega (arith, get_or-set_other xs i j e 0 (eqb-false j i b), h j))

more_other : (xs : List ℕ) (e j : ℕ) → (j ≡ length xs → ⊥) → get_or (xs ++ (e ∷ [])) j 0 ≡ get_or xs j 0
more_other [] e zero h = absurd (h refl)
more_other [] e (suc j) h = refl
more_other (x ∷ xs) e zero h = refl
more_other (x ∷ xs) e (suc j) h = more_other xs e j (λ z. h (ap suc z))

-- a place more in the list is a place more in the array
more_set : (xs ys : List ℕ) (n e : ℕ) → length xs ≡ n → n < length ys → ((j : ℕ) → get_or xs j 0 ≡ get_or ys j 0) → (j : ℕ) → get_or (xs ++ (e ∷ [])) j 0 ≡ get_or (set ys n e) j 0
more_set xs ys n e l h same j =
    by_case (eqb j n)
    (λ b. let q = eqb-true j n b in rw (q, get_or-set_same ys n e 0 h, ← l) (get_or-append_seam xs e [] 0))
    (λ b. let q = eqb-false j n b in more_other xs e j (λ z. q (z ∙ l)) ∙ same j ∙ sym (get_or-set_other ys n j e 0 q))

-- The word

module _ (s : List ℕ) where
  pub unbegun : eqb (byte_at s 0) 40 ≡ false → Begun s None
  unfolding ends_in area_in
  unbegun h = record { came = rw h; area = λ a. rw h }

  module _ (h : eqb (byte_at s 0) 40 ≡ true) where
    pub wordless : run_end label_byte s 1 ≡ None → Begun s None
    unfolding ends_in area_in
    wordless e = record { came = rw (h, e); area = λ a. rw (h, e) }

    pub word_read : (e : ℕ) (l : Layout) → run_end label_byte s 1 ≡ Some e → e ≤ length s → LaidOut (word_at s 1) l
        → Begun s (Some (record { at = e; layout = l; ends = e ∷ 0 ∷ 0 ∷ 0 ∷ 0 ∷ []; says = 0 ∷ 0 ∷ 0 ∷ 0 ∷ [] }))
    unfolding ends_in area_in
    word_read e l r m x = record {
      came = record {
        laid = x;
        within = m;
        before = [];
        read = rw (h, r) (sym (onto_none (parts_of (shape_of (word_at s 1)) s e)));
        count = λ _. refl;
        places = first;
        under = λ j. omega (arith, below j);
        said = λ j k. absurd (omega arith);
        unsaid = λ j _. zeros 4 j;
        five = refl;
        four = refl;
      };
      area = λ a. rw (h, r, x.word);
    }
      where
        first : (j : ℕ) → place_in (e ∷ []) j ≡ place_in (e ∷ 0 ∷ 0 ∷ 0 ∷ 0 ∷ []) j
        first zero = refl
        first (suc j) = sym (zeros 4 j)

        below : (j : ℕ) → place_in (e ∷ 0 ∷ 0 ∷ 0 ∷ 0 ∷ []) j ≤ e
        below zero = omega arith
        below (suc j) = omega (arith, zeros 4 j)

-- A part

module _ (s : List ℕ) (i : ℕ) (p : Progress) (w : Reading s i p) (few : i < 4) where
  abbrev ks : List Kind
  ks = shape_of (word_at s 1)

  abbrev code : ℕ
  code = get_or (map part_number p.layout.kinds) i 0

  code_is : code ≡ get_or (codes_of ks) i 0
  code_is = ap (λ (xs : List ℕ). get_or xs i 0) w.laid.kinds ∙ get_or-take 4 (codes_of ks) i 0 few

  coded_at : (o : Option Coded) → get_or p.layout.kinds i None ≡ o → code ≡ part_number o
  coded_at o e = map_at part_number p.layout.kinds i None 0 (omega (arith, w.laid.size, few)) ∙ ap part_number e

  -- the shape is over: the reader stays
  pub next_over : ((k : Coded) → get_or p.layout.kinds i None ≡ Some k → ⊥) → (a : List ℕ) → Came s (i + 1) (Some p) × Moves s i p a (Some p) a
  unfolding area_after says_by
  next_over n a =
      let h : code ≡ 0 = none_coded n in
      let z = kinds_over ks i (sym code_is ∙ h) in
      let y = drop_more ks i z in
      let f : length ks ≤ i = drop_over ks i z in (
        rw (add-one i) (record {
          laid = w.laid;
          within = w.within;
          before = w.before;
          read = w.read ∙ rw (z, y);
          count = λ l. absurd (omega arith);
          places = w.places;
          under = w.under;
          said = λ j l. by_case (eqb j i)
              (λ b. let q = eqb-true j i b in rw (q, sym code_is ∙ h) (w.unsaid i (omega arith)))
              (λ b. w.said j (omega (arith, eqb-false j i b)));
          unsaid = λ j l. w.unsaid j (omega arith);
          five = w.five;
          four = w.four;
        }),
        record { on = stays; area = rw (w.laid.word, z, y) },
      )
    where
      none_coded : ((k : Coded) → get_or p.layout.kinds i None ≡ Some k → ⊥) → code ≡ 0
      none_coded n = go (get_or p.layout.kinds i None) refl
        where
          go : (o : Option Coded) → get_or p.layout.kinds i None ≡ o → code ≡ 0
          go None e = coded_at None e
          go (Some k) e = absurd (n k e)

      stays : (q : Progress) → Some p ≡ Some q → p.at ≤ q.at
      stays q e = let z : p ≡ q = cc in omega (arith, ap (λ (p : Progress). p.at) z)

      drop_more : (xs : List Kind) (n : ℕ) → drop n xs ≡ [] → drop (suc n) xs ≡ []
      drop_more [] zero e = refl
      drop_more [] (suc n) e = refl
      drop_more (x ∷ xs) zero e = absurd (let z : ◌≡◌ {A = ℕ} 0 1 = cc in omega arith)
      drop_more (x ∷ xs) (suc n) e = drop_more xs n e

      drop_over : (xs : List Kind) (n : ℕ) → drop n xs ≡ [] → length xs ≤ n
      drop_over [] n e = omega arith
      drop_over (x ∷ xs) zero e = absurd (let z : ◌≡◌ {A = ℕ} 0 1 = cc in omega arith)
      drop_over (x ∷ xs) (suc n) e = let l = drop_over xs n e in omega arith

  module _ (c : Coded) (there : get_or p.layout.kinds i None ≡ Some c) where
    abbrev n : ℕ
    n = kind_number c

    n_is : get_or (codes_of ks) i 0 ≡ n
    n_is = sym code_is ∙ coded_at (Some c) there

    kind : (k : Kind) × (drop i ks ≡ k ∷ drop (suc i) ks) × (get_or (codes_of ks) i 0 ≡ code_of k) × (i < length ks)
    kind = kind_at ks i (λ z. coded_some c (sym n_is ∙ z))

    part_end_lem : (at : ℕ) → part_end kind.0 s at ≡ end_by n s at
    part_end_lem at = sym (code_end kind.0 s at) ∙ ap (λ (n : ℕ). end_by n s at) (sym kind.2 ∙ n_is)

    area_by_lem : (at : ℕ) (a : List ℕ) → area_by (code_of kind.0) s at a ≡ area_by n s at a
    area_by_lem at a = ap (λ (n : ℕ). area_by n s at a) (sym kind.2 ∙ n_is)

    stops_here : ends_in s ≡ none → (a b : List ℕ) → area_after (drop i ks) s p.at a ≡ b → Came s (i + 1) None × Moves s i p a None b
    stops_here e a b q = (e, record { on = λ q z. absurd (let y : ◌≡◌ {A = ℕ} 0 1 = cc in omega arith); area = rw w.laid.word q })

    pub next_unspaced : eqb (byte_at s p.at) 32 ≡ false → (a : List ℕ) → Came s (i + 1) None × Moves s i p a None a
    unfolding parts_of area_after
    next_unspaced sp a = stops_here (w.read ∙ rw (kind.1, sp)) a a (rw (kind.1, sp))

    module _ (sp : eqb (byte_at s p.at) 32 ≡ true) (a b : List ℕ) (put : b ≡ area_by n s (p.at + 1) a) where
      pub next_missing : end_by n s (p.at + 1) ≡ None → Came s (i + 1) None × Moves s i p a None b
      unfolding parts_of area_after
      next_missing e =
          let q : part_end kind.0 s (p.at + 1) ≡ None = part_end_lem (p.at + 1) ∙ e in
          stops_here (w.read ∙ rw (kind.1, sp, q)) a b (rw (kind.1, sp, q) (area_by_lem (p.at + 1) a ∙ sym put))

      pub next_held : (e v : ℕ) → end_by n s (p.at + 1) ≡ Some e → p.at + 2 ≤ e → e ≤ length s → v ≡ says_by n s (p.at + 1)
          → Came s (i + 1) (Some (held_to p i e v)) × Moves s i p a (Some (held_to p i e v)) b
      unfolding parts_of area_after
      next_held e v r l m is =
          let q : part_end kind.0 s (p.at + 1) ≡ Some e = part_end_lem (p.at + 1) ∙ r in
          let len : length w.before ≡ i = w.count (omega (arith, kind.3)) in
          let five = w.five in
          let four = w.four in
          let more = length-append w.before (p.at ∷ []) in
          let here : place_in p.ends i ≡ p.at = sym (w.places i) ∙ rw (← len) (get_or-append_seam w.before p.at [] 0) in (
            subst (λ (n : ℕ). Reading s n (held_to p i e v)) (sym (add-one i)) (record {
              laid = w.laid;
              within = m;
              before = w.before ++ (p.at ∷ []);
              read = w.read ∙ rw (kind.1, sp, q) (sym (onto_onto w.before (p.at ∷ []) (parts_of (drop (suc i) ks) s e)));
              count = λ _. omega arith;
              places = more_set (w.before ++ (p.at ∷ [])) p.ends (i + 1) e (omega arith) (omega arith) w.places;
              under = set-under p.ends (i + 1) e (omega arith) (λ j. omega (arith, w.under j));
              said = λ j x. by_case (eqb j i)
                  (λ z.
                  let u = eqb-true j i z in
                  rw (u, get_or-set_same p.says i v 0 (omega arith), get_or-set_other p.ends (i + 1) i e 0 (λ y. omega arith), here, n_is) is)
                  (λ z.
                  let u = eqb-false j i z in
                  rw (get_or-set_other p.says i j v 0 u, get_or-set_other p.ends (i + 1) j e 0 (λ y. omega arith)) (w.said j (by_case (leb i j) (λ t. absurd (u (omega (arith, leb-true i j t)))) (λ t. leb-false i j t))));
              unsaid = λ j l. get_or-set_other p.says i j v 0 (λ y. omega arith) ∙ w.unsaid j (omega arith);
              five = length-set p.ends (i + 1) e ∙ five;
              four = length-set p.says i v ∙ four;
            }),
            record { on = λ q z. let y : held_to p i e v ≡ q = cc in omega (arith, ap (λ (p : Progress). p.at) y); area = rw (w.laid.word, kind.1, sp, q) (ap (λ (z : List ℕ). area_after (drop (suc i) ks) s e z) (area_by_lem (p.at + 1) a ∙ sym put)) },
          )

-- The line's end

module _ (s : List ℕ) (p : Progress) (w : Reading s 4 p) where
  over_four : drop 4 (shape_of (word_at s 1)) ≡ []
  over_four = short (shape_of (word_at s 1)) w.laid.few
    where
      short : (xs : List Kind) → length xs ≤ 4 → drop 4 xs ≡ []
      short [] l = refl
      short (a ∷ []) l = refl
      short (a ∷ b ∷ []) l = refl
      short (a ∷ b ∷ c ∷ []) l = refl
      short (a ∷ b ∷ c ∷ d ∷ []) l = refl
      short (a ∷ b ∷ c ∷ d ∷ e ∷ xs) l = absurd (omega arith)

  pub line_unclosed : closes_line s p.at ≡ false → ends_in s ≡ none
  unfolding parts_of
  line_unclosed c = w.read ∙ rw (over_four, c)

  pub line_closed : closes_line s p.at ≡ true → Whole s (record { at = length s; layout = p.layout; ends = p.ends; says = p.says })
  unfolding parts_of
  line_closed c = record {
    laid = w.laid;
    over = refl;
    places = w.before ++ (p.at ∷ []);
    read = w.read ∙ rw (over_four, c);
    same = w.places;
    inside = λ j. omega (arith, w.under j, inside s p.at 41 (omega arith) (eqb-true _ _ (and_left (eqb (byte_at s p.at) 41) (leb (length s) (p.at + 1)) c)));
    said = w.said;
    five = w.five;
    four = w.four;
  }

  pub area_four : (a : List ℕ) → area_from s 4 (Some p) a ≡ a
  unfolding area_after
  area_four a = rw (w.laid.word, over_four)

-- a right's bit is held in a byte
pub right_small : (s : List ℕ) (at : ℕ) → right_at s at < 256
unfolding right_at
right_small s at = among-is (λ (x : ℕ) _. x < 256) 0 rights (label_bytes_at s at) (omega arith, (omega arith, (omega arith, (omega arith, (omega arith, tt))))) (omega arith)

-- The whole line was passed: what the reader hands on
pub whole_read : (s : List ℕ) (p : Progress) → Whole s p → ((j : ℕ) → place_in p.ends j + 1 < 2 ^ 64)
    → FormRead s (record { word = p.layout.word; stage = p.layout.stage; ends = p.ends; says = p.says })
unfolding read_form
whole_read s p w small =
    let word-is : p.layout.word ≡ word_at s 1 = w.laid.word in
    let f : place_in p.ends ≡ place_in w.places = λ t i. sym (w.same i) t in
    record {
      form = rw (w.read, f, word-is);
      stage = w.laid.stage ∙ ap stage_of (sym word-is);
      places = λ j. sym (w.same j) ∙ rw w.read;
      says = rw word-is w.said;
      ends = (w.five, small);
      four = w.four;
    }

pub none_read : (s : List ℕ) → ends_in s ≡ none → FormRead s (record { word = word.Other; stage = None; ends = replicate 5 0; says = replicate 4 0 })
unfolding read_form says_by
none_read s e = record {
  form = rw e;
  stage = refl;
  places = λ j. rw e (zeros 5 j);
  says = λ j l. zeros 4 j ∙ sym (none_said j);
  ends = (refl, λ j. omega (arith, zeros 5 j));
  four = refl;
}
  where
    none_said : (j : ℕ) → says_by (get_or (codes_of []) j 0) s (place_in (replicate 5 0) j + 1) ≡ 0
    none_said j = rw (zeros 5 j)

pub none_form : (s : List ℕ) → ends_in s ≡ none → no_form ≡ read_form s
unfolding read_form
none_form s e = rw e
