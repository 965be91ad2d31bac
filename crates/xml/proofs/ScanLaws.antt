-- One step of a pass over the tokens of a document, token by token, as the code goes through them. Assumes nothing.
use Rattle.std.specs.Prelude.{Option, Some, None}
use Prim.Native.Nat.{ℕ, zero, suc, ◌+◌, ◌-◌, ◌≤◌, ◌<◌}
use mathlib.Core.Path.{◌≡◌, refl, sym, ap, ◌∙◌}
use mathlib.Core.List.{List, [], ◌∷◌, map}
use mathlib.Core.Bool.{true, false}
use mathlib.Core.Logic.{◌⊎◌, ⊎_elim}
use native.Mathlib.Omega.{arith}
use native.Mathlib.Numerals.{add-one}
use lib.ListN.{length, get_or, set, drop, length-map}
use lib.Seq.{drop-drop}
use borrow.Author.Tests.{ne_eqb}
use Rattle.rights.specs.Nodes.{node}
use Rattle.rights.specs.Labels.{label_byte}
use Rattle.rights.specs.PathReader.{run_at}
use Rattle.rights.proofs.ListLaws.{by_case}
use Rattle.xml.proofs.LexerLaws.{lexed_is}
use Rattle.xml.specs.How.Tokens.{Token, opens, closes, empty, text, token, lex, Tokens, got, bad as none, with_token, tokens_from}
use Rattle.xml.specs.How.Lexer.{between, name_in, Spot, LexedAt}
use Rattle.xml.specs.How.Scan.{tallied, in_window, opened, closes_it, told, told_by, name_at, placed, told_at, Ready, Onwards, Steps}
use Rattle.xml.specs.declared.lexer.Span.{Span}
use Rattle.xml.specs.declared.lexer.Lexeme.{Lexeme}
use Rattle.xml.specs.declared.lexer.Lexeme.TheVariants.{Opens, Closes, Empty, Label, End, Bad}
use Rattle.xml.specs.declared.document.Tally.{Tally}
use Rattle.xml.specs.declared.document.Pass.{Pass}
use Rattle.std.specs.declared.ops.ControlFlow.{ControlFlow}
use Rattle.std.specs.declared.ops.ControlFlow.TheVariants.{Continue, Break}

-- Places and the names that stand there

map-set : {A : Type 0} {B : Type 0} (f : A → B) (l : List A) (i : ℕ) (x : A) → map f (set l i x) ≡ set (map f l) i (f x)
map-set f [] i x = refl
map-set f (y ∷ l) zero x = refl
map-set {B = B} f (y ∷ l) (suc i) x = ap (λ (z : List B). f y ∷ z) (map-set f l i x)

set_below : (l : List ℕ) (i x t : ℕ) → ((k : ℕ) → get_or l k 0 < t) → x < t → (k : ℕ) → get_or (set l i x) k 0 < t
set_below [] i x t h l k = h k
set_below (y ∷ l) zero x t h b zero = b
set_below (y ∷ l) zero x t h b (suc k) = h (suc k)
set_below (y ∷ l) (suc i) x t h b zero = h zero
set_below (y ∷ l) (suc i) x t h b (suc k) = set_below l i x t (λ j. h (suc j)) b k

names_placed : (s : List ℕ) (low : ℕ) (places : List ℕ) (l p : ℕ) → map (name_at s) (placed low places l p) ≡ opened low (map (name_at s) places) l (name_at s p)
names_placed s low places l p =
    rw (length-map places (name_at s))
    (by_case (in_window low (length places) l) (λ e. rw e (map-set (name_at s) places (l - low) p)) (λ e. rw e))

placed_below : (low : ℕ) (places : List ℕ) (l p t : ℕ) → ((k : ℕ) → get_or places k 0 < t) → p < t → (k : ℕ) → get_or (placed low places l p) k 0 < t
placed_below low places l p t h b =
    by_case (in_window low (length places) l) (λ e. rw e (set_below places (l - low) p t h b)) (λ e. rw e h)

pub named : (s : List ℕ) (a e : ℕ) → e ≡ a + run_at label_byte s a → between s a e ≡ name_at s a
named s a e q = let z : e - a ≡ run_at label_byte s a = omega arith in rw z

-- One token more

module _ (low : ℕ) (names : List (List ℕ)) (t : Tally) (n : List ℕ) where
  told_outside : (x : Token) (T : Tokens) → told_by low names 0 t (with_token x T) ≡ None
  unfolding told
  told_outside x (got xs) = refl
  told_outside x none = refl

  told_opens : (T : Tokens) (d : ℕ) → (d ≡ 0 → ⊥) → told_by low names d t (with_token (opens n) T) ≡ told_by low (opened low names d n) (d + 1) (tallied t (node d n)) T
  unfolding told
  told_opens (got xs) zero h = absurd (h refl)
  told_opens (got xs) (suc d) h = rw (add-one (suc d))
  told_opens none d h = refl

  told-closes : (T : Tokens) (d : ℕ) → (d ≡ 0 → ⊥) → closes_it low names (d - 1) n ≡ true → told_by low names d t (with_token (closes n) T) ≡ told_by low names (d - 1) t T
  unfolding told
  told-closes (got xs) zero h e = absurd (h refl)
  told-closes (got xs) (suc d) h e = let z : suc d - 1 ≡ d = omega arith in let q = rw z at e in rw (z, q)
  told-closes none d h e = refl

  told_unclosed : (T : Tokens) (d : ℕ) → (d ≡ 0 → ⊥) → closes_it low names (d - 1) n ≡ false → told_by low names d t (with_token (closes n) T) ≡ None
  unfolding told
  told_unclosed (got xs) zero h e = absurd (h refl)
  told_unclosed (got xs) (suc d) h e = let z : suc d - 1 ≡ d = omega arith in let q = rw z at e in rw q
  told_unclosed none d h e = refl

  told_empty : (T : Tokens) (d : ℕ) → (d ≡ 0 → ⊥) → told_by low names d t (with_token (empty n) T) ≡ told_by low names d (tallied t (node d n)) T
  unfolding told
  told_empty (got xs) zero h = absurd (h refl)
  told_empty (got xs) (suc d) h = refl
  told_empty none d h = refl

  told_text : (T : Tokens) (d : ℕ) → (d ≡ 0 → ⊥) → told_by low names d t (with_token (text n) T) ≡ told_by low names d (tallied t (node d n)) T
  unfolding told
  told_text (got xs) zero h = absurd (h refl)
  told_text (got xs) (suc d) h = refl
  told_text none d h = refl

-- The step of the code at a place

module _ {s places : List ℕ} {p : Pass} (low : ℕ) (here : Ready s places p) where
  -- the tokens from the place on, by the first
  tokens_from_lem : (x : Token) (n f : ℕ) → lex (drop p.at s) ≡ token x n → tokens_from (suc f) (drop p.at s) ≡ with_token x (tokens_from f (drop (p.at + n) s))
  unfolding tokens_from
  tokens_from_lem x n f e = rw (e, drop-drop n p.at s)

  next_from : (x : Token) (t f : ℕ) → p.at ≤ t → lex (drop p.at s) ≡ token x (t - p.at) → tokens_from (suc f) (drop p.at s) ≡ with_token x (tokens_from f (drop t s))
  next_from x t f h e = let z : p.at + (t - p.at) ≡ t = omega arith in tokens_from_lem x (t - p.at) f e ∙ rw z

  pub steps_end : LexedAt s p.at End → p.depth ≡ 0 → Steps s low places places p (Break (Some p.tally))
  unfolding tokens_from told
  steps_end l z = record { is = λ f. rw (l.is, z); on = tt }

  pub steps_bad : LexedAt s p.at Bad → Steps s low places places p (Break None)
  unfolding tokens_from
  steps_bad l = record { is = λ f. rw l.is; on = tt }

  outside : (x : Token) (n : ℕ) → lex (drop p.at s) ≡ token x n → p.depth ≡ 0 → Steps s low places places p (Break None)
  outside x n e z = record { is = λ f. rw (tokens_from_lem x n f e, z) (told_outside low (map (name_at s) places) p.tally [] x (tokens_from f (drop (p.at + n) s))); on = tt }

  module _ (v : Span) where
    abbrev name : List ℕ
    name = name_in s v

    -- what is counted lies before the next place
    ready : (after : List ℕ) (d : ℕ) (tally : Tally) → Spot s p.at v.start v.end v.next → ((k : ℕ) → get_or after k 0 < v.next) → d ≤ p.depth + 1 → tally.nodes ≤ p.tally.nodes + 1
        → Onwards s after p (Continue (record { at = v.next; depth = d; tally = tally }))
    ready after d tally w b h n =
        let r = here.depth in
        let m = here.nodes in
        (omega arith, record { within = w.within; depth = omega arith; nodes = omega arith; before = b })

    behind : Spot s p.at v.start v.end v.next → (k : ℕ) → get_or places k 0 < v.next
    behind w k = omega (arith, here.before k)

    pub steps_opens : LexedAt s p.at (Opens v) → (p.depth ≡ 0 → ⊥) → (after : List ℕ) → after ≡ placed low places p.depth v.start → (tally : Tally) → tally ≡ tallied p.tally (node p.depth name)
        → Steps s low places after p (Continue (record { at = v.next; depth = p.depth + 1; tally = tally }))
    steps_opens l h after o tally c =
        let w = l.on in
        record {
          is = λ f.
              rw (next_from (opens name) v.next f (omega arith) l.is, o, c, names_placed s low places p.depth v.start, ← named s v.start v.end w.run)
              (told_opens low (map (name_at s) places) p.tally name (tokens_from f (drop v.next s)) p.depth h);
          on = ready after (p.depth + 1) tally w (rw o (placed_below low places p.depth v.start v.next (behind w) (omega arith))) (omega arith) (rw c (omega arith));
        }

    pub steps-closes : LexedAt s p.at (Closes v) → (p.depth ≡ 0 → ⊥) → closes_it low (map (name_at s) places) (p.depth - 1) name ≡ true
        → Steps s low places places p (Continue (record { at = v.next; depth = p.depth - 1; tally = p.tally }))
    steps-closes l h c =
        let w = l.on in
        record {
          is = λ f. rw (next_from (closes name) v.next f (omega arith) l.is) (told-closes low (map (name_at s) places) p.tally name (tokens_from f (drop v.next s)) p.depth h c);
          on = ready places (p.depth - 1) p.tally w (behind w) (omega arith) (omega arith);
        }

    pub steps_unclosed : LexedAt s p.at (Closes v) → (p.depth ≡ 0 → ⊥) → closes_it low (map (name_at s) places) (p.depth - 1) name ≡ false → Steps s low places places p (Break None)
    steps_unclosed l h c =
        let w = l.on in
        record { is = λ f. rw (next_from (closes name) v.next f (omega arith) l.is) (told_unclosed low (map (name_at s) places) p.tally name (tokens_from f (drop v.next s)) p.depth h c); on = tt }

    leaf_on : Spot s p.at v.start v.end v.next → (x : Token) → lex (drop p.at s) ≡ token x (v.next - p.at)
        → ((T : Tokens) (d : ℕ) → (d ≡ 0 → ⊥) → told_by low (map (name_at s) places) d p.tally (with_token x T) ≡ told_by low (map (name_at s) places) d (tallied p.tally (node d name)) T)
        → (p.depth ≡ 0 → ⊥) → (tally : Tally) → tally ≡ tallied p.tally (node p.depth name) → Steps s low places places p (Continue (record { at = v.next; depth = p.depth; tally = tally }))
    leaf_on w x i told-leaf h tally c = record {
      is = λ f. rw (next_from x v.next f (omega arith) i, c) (told-leaf (tokens_from f (drop v.next s)) p.depth h);
      on = ready places p.depth tally w (behind w) (omega arith) (rw c (omega arith));
    }

    pub steps_empty : LexedAt s p.at (Empty v) → (p.depth ≡ 0 → ⊥) → (tally : Tally) → tally ≡ tallied p.tally (node p.depth name)
        → Steps s low places places p (Continue (record { at = v.next; depth = p.depth; tally = tally }))
    steps_empty l = leaf_on l.on (empty name) l.is (told_empty low (map (name_at s) places) p.tally name)

    pub steps-label : LexedAt s p.at (Label v) → (p.depth ≡ 0 → ⊥) → (tally : Tally) → tally ≡ tallied p.tally (node p.depth name)
        → Steps s low places places p (Continue (record { at = v.next; depth = p.depth; tally = tally }))
    steps-label l = leaf_on l.on (text name) l.is (told_text low (map (name_at s) places) p.tally name)

  module _ (r : Lexeme) (l : LexedAt s p.at r) where
    -- where no element is open, only the end may come
    pub steps_outside : p.depth ≡ 0 → (r ≡ End → ⊥) → Steps s low places places p (Break None)
    steps_outside z n = go r l n
      where
        go : (r : Lexeme) → LexedAt s p.at r → (r ≡ End → ⊥) → Steps s low places places p (Break None)
        go (Opens v) l n = outside (opens (name v)) (v.next - p.at) l.is z
        go (Closes v) l n = outside (closes (name v)) (v.next - p.at) l.is z
        go (Empty v) l n = outside (empty (name v)) (v.next - p.at) l.is z
        go (Label v) l n = outside (text (name v)) (v.next - p.at) l.is z
        go End l n = absurd (n refl)
        go Bad l n = steps_bad l

    module _ (h : p.depth ≡ 0 → ⊥) where
      pub steps_unended : (r ≡ End) ⊎ (r ≡ Bad) → Steps s low places places p (Break None)
      unfolding tokens_from told
      steps_unended = ⊎_elim (λ e. let k = lexed_is l e in record { is = λ f. rw (k.is, ne_eqb _ 0 h); on = tt }) (λ e. steps_bad (lexed_is l e))

      pub steps_leaf : (v : Span) → (r ≡ Empty v) ⊎ (r ≡ Label v) → (tally : Tally) → tally ≡ tallied p.tally (node p.depth (name v))
          → Steps s low places places p (Continue (record { at = v.next; depth = p.depth; tally = tally }))
      steps_leaf v o tally c = ⊎_elim (λ e. steps_empty v (lexed_is l e) h tally c) (λ e. steps-label v (lexed_is l e) h tally c) o

-- A pass: what is told from the place on is what is told in the end

abbrev pub Passing : List ℕ → ℕ → List ℕ → Pass → List ℕ → Pass → Type 0
Passing s low places₀ p₀ places p = (f : ℕ) → length s - p₀.at < f → (g : ℕ) × (length s - p.at < g) × (told_at s low places₀ f p₀ ≡ told_at s low places g p)

module _ (s : List ℕ) (low : ℕ) (places : List ℕ) (p : Pass) where
  pub passing_starts : Passing s low places p places p
  passing_starts f h = (f, h, refl)

  module _ (after : List ℕ) (r : ControlFlow (Option Tally) Pass) (places₀ : List ℕ) (p₀ : Pass) (x : Steps s low places after p r) (c : Passing s low places₀ p₀ places p) where
    pub passing_on : (q : Pass) → r ≡ Continue q → (p.at < q.at) × Ready s after q
    passing_on q e = let x' = rw e at x in x'.on

    pub passing_goes_on : (q : Pass) → r ≡ Continue q → Passing s low places₀ p₀ after q
    passing_goes_on q e f h = let w = c f h in go w.0 w.1 w.2
      where
        go : (g : ℕ) → length s - p.at < g → told_at s low places₀ f p₀ ≡ told_at s low places g p
            → (g : ℕ) × (length s - q.at < g) × (told_at s low places₀ f p₀ ≡ told_at s low after g q)
        go zero l d = absurd (omega arith)
        go (suc g) l d = let o = passing_on q e in let b = o.1.within in let x' = rw e at x in (g, omega arith, d ∙ x'.is g)

    pub passing_ends : (k : Option Tally) → r ≡ Break k → (f : ℕ) → length s - p₀.at < f → k ≡ told_at s low places₀ f p₀
    passing_ends k e f h = let w = c f h in go w.0 w.1 w.2
      where
        go : (g : ℕ) → length s - p.at < g → told_at s low places₀ f p₀ ≡ told_at s low places g p → k ≡ told_at s low places₀ f p₀
        go zero l d = absurd (omega arith)
        go (suc g) l d = let x' = rw e at x in sym (d ∙ x'.is g)
