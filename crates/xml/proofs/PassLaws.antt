-- A whole pass, by the first token. Assumes nothing.
use Rattle.std.specs.Prelude.{Option, None}
use Prim.Native.Nat.{ℕ, zero, suc, ◌-◌, ◌≤◌, ◌<◌}
use mathlib.Core.Path.{◌≡◌, refl, sym, ap, ◌∙◌}
use mathlib.Core.List.{List, ◌∷◌, map}
use native.Mathlib.Omega.{arith}
use lib.ListN.{length, get_or, drop, replicate, length-replicate}
use Rattle.rights.specs.Nodes.{node}
use Rattle.xml.specs.How.Tokens.{Token, opens, closes, empty, text, token, lex, Tokens, with_token, tokens_from, tokens}
use Rattle.xml.specs.How.Lexer.{name_in, Spot, LexedAt}
use Rattle.xml.specs.How.Scan.{tallied, no_nodes, kind_within, told_by, name_at, told_at, Ready}
use Rattle.xml.specs.declared.lexer.Span.{Span}
use Rattle.xml.specs.declared.lexer.Lexeme.{Lexeme}
use Rattle.xml.specs.declared.lexer.Lexeme.TheVariants.{Opens, Closes, Empty, Label, End, Bad}
use Rattle.xml.specs.declared.document.Tally.{Tally}
use Rattle.xml.proofs.ScanLaws.{named}
use Rattle.xml.proofs.KindLaws.{kind_opens, kind_empty, kind_closes, kind_text, kind_none, root_open}

map-replicate : {A : Type 0} {B : Type 0} (f : A → B) (w : ℕ) (a : A) → map f (replicate w a) ≡ replicate w (f a)
map-replicate f zero a = refl
map-replicate {B = B} f (suc w) a = ap (λ (l : List B). f a ∷ l) (map-replicate f w a)

below : (w a t k : ℕ) → a < t → get_or (replicate w a) k 0 < t
below zero a t k h = omega arith
below (suc w) a t zero h = h
below (suc w) a t (suc k) h = below w a t k h

module _ (s : List ℕ) (low w : ℕ) where
  -- the tokens, by the first
  first : (x : Token) (t : ℕ) → lex s ≡ token x (t - 0) → tokens s ≡ with_token x (tokens_from (length s) (drop t s))
  unfolding tokens_from
  first x t e = let z : t - 0 ≡ t = omega arith in rw (e, z)

  pub pass_end : LexedAt s 0 End → None ≡ kind_within low w (tokens s)
  unfolding tokens_from
  pass_end l = rw l.is (sym (kind_none low w))

  pub pass_bad : LexedAt s 0 Bad → None ≡ kind_within low w (tokens s)
  unfolding tokens_from
  pass_bad l = rw l.is

  module _ (v : Span) where
    abbrev name : List ℕ
    name = name_in s v

    abbrev rest : Tokens
    rest = tokens_from (length s) (drop v.next s)

    pub pass_closes : LexedAt s 0 (Closes v) → None ≡ kind_within low w (tokens s)
    pass_closes l = rw (first (closes name) v.next l.is) (sym (kind_closes low w name rest))

    pub pass_label : LexedAt s 0 (Label v) → None ≡ kind_within low w (tokens s)
    pass_label l = rw (first (text name) v.next l.is) (sym (kind_text low w name rest))

    names : Spot s 0 v.start v.end v.next → map (name_at s) (replicate w v.start) ≡ replicate w name
    names p = map-replicate (name_at s) w v.start ∙ ap (replicate w) (sym (named s v.start v.end p.run))

    -- what stands behind a root's tag, where d elements are open
    pub record Root (d : ℕ) : Type 0 where
      pub spot : Spot s 0 v.start v.end v.next
      pub few : d ≤ 1
      pub told : kind_within low w (tokens s) ≡ told_by low (replicate w name) d (tallied no_nodes (node 0 name)) rest

    pub root_opens : LexedAt s 0 (Opens v) → Root 1
    root_opens l =
        let k = kind_opens low (replicate w name) name rest (root_open low w name) in
        record { spot = l.on; few = omega arith; told = rw (first (opens name) v.next l.is) (rw (length-replicate {A = List ℕ} w name) at k) }

    pub root_empty : LexedAt s 0 (Empty v) → Root 0
    root_empty l =
        let k = kind_empty low (replicate w name) name rest in
        record { spot = l.on; few = omega arith; told = rw (first (empty name) v.next l.is) (rw (length-replicate {A = List ℕ} w name) at k) }

    module _ {d : ℕ} (r : Root d) (tally : Tally) (c : tally ≡ tallied no_nodes (node 0 name)) where
      pub root_ready : Ready s (replicate w v.start) (record { at = v.next; depth = d; tally = tally })
      root_ready =
          let p = r.spot in
          let h = r.few in
          record { within = p.within; depth = omega arith; nodes = rw c (omega arith); before = λ k. below w v.start v.next k (omega arith) }

      pub pass_root : (t : Option Tally) → ((f : ℕ) → length s - v.next < f → t ≡ told_at s low (replicate w v.start) f (record { at = v.next; depth = d; tally = tally }))
          → t ≡ kind_within low w (tokens s)
      pass_root t h = let p = r.spot in h (length s) (omega arith) ∙ rw (names p, c) (sym r.told)

  -- any other first token
  pub no_root : (r : Lexeme) → LexedAt s 0 r → ((v : Span) → r ≡ Opens v → ⊥) → ((v : Span) → r ≡ Empty v → ⊥) → None ≡ kind_within low w (tokens s)
  no_root (Opens v) l o e = absurd (o v refl)
  no_root (Closes v) l o e = pass_closes v l
  no_root (Empty v) l o e = absurd (e v refl)
  no_root (Label v) l o e = pass_label v l
  no_root End l o e = pass_end l
  no_root Bad l o e = pass_bad l
