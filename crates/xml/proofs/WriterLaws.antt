-- One token after the other, each with the records of its nodes, and the table in the end. Assumes nothing.
use Rattle.std.specs.Prelude.{None}
use Prim.Native.Nat.{ℕ, zero, suc, ◌+◌, ◌-◌, ◌*◌, ◌^◌, ◌≤◌, ◌<◌}
use mathlib.Core.Path.{◌≡◌, refl, sym, ap, ◌∙◌}
use mathlib.Core.Bool.{true}
use mathlib.Core.List.{List, [], ◌∷◌, ◌++◌, map, map-append, append-nil, append_assoc}
use mathlib.Core.Logic.{◌⊎◌, ⊎_elim}
use native.Mathlib.Omega.{arith}
use native.Mathlib.Nat.{le-max_left, le-max_right}
use native.Mathlib.Numerals.{add-one}
use lib.ListN.{length, take, drop, replicate, length-append, length-take, length-drop, length-map}
use lib.Seq.{drop-drop, drop_at, length-take-le}
use Rattle.rights.specs.Bytes.{all, is_zero}
use Rattle.rights.specs.Held.{join, le4, node_bytes, table_bytes}
use Rattle.rights.specs.Nodes.{Node, node, level_of}
use Rattle.rights.specs.Record.{pasted, node_record}
use Rattle.rights.proofs.ListLaws.{all_split}
use Rattle.rights.proofs.PlaceLaws.{zero_replicate}
use Rattle.rights.proofs.RecordLaws.{pasted-pasted, pasted-none}
use Rattle.rights.proofs.RecordOfLaws.{length_node}
use Rattle.rights.proofs.TableLaws.{both}
use Rattle.xml.proofs.LexerLaws.{lexed_is}
use Rattle.xml.specs.How.Tokens.{Token, opens, closes, empty, text, Lexed, token, end, bad, lex, Tokens, got, with_token, on_lexed, tokens_from, tokens, token_nodes, good_tokens, nodes_of_tokens, is_document, document_nodes}
use Rattle.xml.specs.How.Lexer.{name_in, Spot, LexedAt}
use Rattle.xml.specs.How.Loading.{deepest, Writable}
use Rattle.xml.specs.How.Writer.{own_nodes, depth_after, on_token, nodes_from, all_nodes, nodes_at, records_of, Counted, Roomy, Put, PutNext, PutAll}
use Rattle.xml.specs.declared.lexer.Span.{Span}
use Rattle.xml.specs.declared.lexer.Lexeme.{Lexeme}
use Rattle.xml.specs.declared.lexer.Lexeme.TheVariants.{Opens, Closes, Empty, Label, End, Bad}
use Rattle.xml.specs.declared.writer.Cursor.{Cursor}

-- One token

module _ {s table : List ℕ} {p : Cursor} (here : Roomy s table p) where
  read_token : (x : Token) (t f : ℕ) → p.at ≤ t → lex (drop p.at s) ≡ token x (t - p.at)
      → nodes_at s (suc f) p ≡ own_nodes p.depth x ++ nodes_from f (depth_after p.depth x) (drop t s)
  unfolding nodes_from
  read_token x t f h e = let z : p.at + (t - p.at) ≡ t = omega arith in rw (e, drop-drop (t - p.at) p.at s, z)

  none_left : (x : Lexed) → lex (drop p.at s) ≡ x → ((h : Token → ℕ → List Node) → on_token h x ≡ []) → (f : ℕ) → nodes_at s f p ≡ []
  unfolding nodes_from
  none_left x e o zero = refl
  none_left x e o (suc f) = rw e (o (λ y n. own_nodes p.depth y ++ nodes_from f (depth_after p.depth y) (drop n (drop p.at s))))

  pub put_end : LexedAt s p.at End → PutNext s table table p None
  put_end l = (refl, none_left end l.is (λ h. refl))

  pub put_bad : LexedAt s p.at Bad → PutNext s table table p None
  put_bad l = (refl, none_left bad l.is (λ h. refl))

  module _ (v : Span) where
    abbrev name : List ℕ
    name = name_in s v

    abbrev own : List Node
    own = node p.depth name ∷ []

    -- what putting its record asks
    abbrev Room : Type 0
    Room = (4 + p.nodes * 32 + 32 ≤ length table) × (p.depth ≤ 11) × (v.start ≤ v.end) × (v.end ≤ v.start + 24) × (v.end ≤ length s)

    room_for : (x : Token) → lex (drop p.at s) ≡ token x (v.next - p.at) → own_nodes p.depth x ≡ own → Spot s p.at v.start v.end v.next → Room
    room_for x i o w =
        let r = here.room (node p.depth name) (nodes_from here.fuel (depth_after p.depth x) (drop v.next s)) (read_token x v.next here.fuel (omega arith) i ∙ rw o) in
        (r.0, r.1, omega arith, omega arith, omega arith)

    pub room_opens : LexedAt s p.at (Opens v) → Room
    room_opens l = room_for (opens name) l.is refl l.on

    pub room_empty : LexedAt s p.at (Empty v) → Room
    room_empty l = room_for (empty name) l.is refl l.on

    pub room_label : LexedAt s p.at (Label v) → Room
    room_label l = room_for (text name) l.is refl l.on

    put-own : (x : Token) → lex (drop p.at s) ≡ token x (v.next - p.at) → own_nodes p.depth x ≡ own → Spot s p.at v.start v.end v.next → (d : ℕ) → d ≡ depth_after p.depth x → d ≤ p.depth + 1
        → (after : List ℕ) → after ≡ pasted table (4 + p.nodes * 32) (node_record p.depth name) → Put s table after p (record { at = v.next; depth = d; nodes = p.nodes + 1 })
    unfolding join
    put-own x i o w d z h after b =
        let short : length name ≤ 24 = omega (arith, length-take (v.end - v.start) (drop v.start s)) in
        let one : records_of own ≡ node_record p.depth name = append-nil (node_record p.depth name) in
        let c = here.counted in
        record {
          own = own;
          read = λ f. read_token x v.next f (omega arith) i ∙ rw (o, z);
          count = refl;
          wide = ap length one ∙ length_node p.depth name short;
          bytes = b ∙ ap (pasted table (4 + p.nodes * 32)) (sym one);
          on = omega arith;
          counted = record { within = w.within; depth = omega arith; nodes = omega arith };
        }

    pub put_opens : LexedAt s p.at (Opens v) → (after : List ℕ) → after ≡ pasted table (4 + p.nodes * 32) (node_record p.depth name)
        → Put s table after p (record { at = v.next; depth = p.depth + 1; nodes = p.nodes + 1 })
    put_opens l = put-own (opens name) l.is refl l.on (p.depth + 1) refl (omega arith)

    pub put_empty : LexedAt s p.at (Empty v) → (after : List ℕ) → after ≡ pasted table (4 + p.nodes * 32) (node_record p.depth name)
        → Put s table after p (record { at = v.next; depth = p.depth; nodes = p.nodes + 1 })
    put_empty l = put-own (empty name) l.is refl l.on p.depth refl (omega arith)

    pub put-label : LexedAt s p.at (Label v) → (after : List ℕ) → after ≡ pasted table (4 + p.nodes * 32) (node_record p.depth name)
        → Put s table after p (record { at = v.next; depth = p.depth; nodes = p.nodes + 1 })
    put-label l = put-own (text name) l.is refl l.on p.depth refl (omega arith)

    pub put-closes : LexedAt s p.at (Closes v) → (d : ℕ) → d ≡ p.depth - 1 → Put s table table p (record { at = v.next; depth = d; nodes = p.nodes })
    unfolding join
    put-closes l d z =
        let w = l.on in
        let c = here.counted in
        record {
          own = [];
          read = λ f. rw z (read_token (closes name) v.next f (omega arith) l.is);
          count = omega arith;
          wide = refl;
          bytes = pasted-none table (4 + p.nodes * 32);
          on = omega arith;
          counted = record { within = w.within; depth = omega arith; nodes = omega arith };
        }

  -- the tokens that are alike
  module _ (r : Lexeme) (l : LexedAt s p.at r) where
    pub put_over : (r ≡ End) ⊎ (r ≡ Bad) → PutNext s table table p None
    put_over = ⊎_elim (λ e. put_end (lexed_is l e)) (λ e. put_bad (lexed_is l e))

    module _ (v : Span) (o : (r ≡ Empty v) ⊎ (r ≡ Label v)) where
      pub room_leaf : Room v
      room_leaf = ⊎_elim (λ e. room_empty v (lexed_is l e)) (λ e. room_label v (lexed_is l e)) o

      pub put_leaf : (after : List ℕ) → after ≡ pasted table (4 + p.nodes * 32) (node_record p.depth (name v))
          → Put s table after p (record { at = v.next; depth = p.depth; nodes = p.nodes + 1 })
      put_leaf after b = ⊎_elim (λ e. put_empty v (lexed_is l e) after b) (λ e. put-label v (lexed_is l e) after b) o

-- All tokens

join-append : (a b : List (List ℕ)) → join (a ++ b) ≡ join a ++ join b
unfolding join
join-append [] b = refl
join-append (x ∷ a) b = ap (λ (l : List ℕ). x ++ l) (join-append a b) ∙ sym (append_assoc x (join a) (join b))

records-append : (a b : List Node) → records_of (a ++ b) ≡ records_of a ++ records_of b
records-append a b = ap join (map-append node_bytes a b) ∙ join-append (map node_bytes a) (map node_bytes b)

deepest_in : (done : List Node) (x : Node) (xs : List Node) → level_of x ≤ deepest (done ++ (x ∷ xs))
unfolding deepest
deepest_in [] x xs = le-max_left (level_of x) (deepest xs)
deepest_in (y ∷ done) x xs = omega (arith, deepest_in done x xs, le-max_right (level_of y) (deepest (done ++ (x ∷ xs))))

-- the records of the nodes so far are put
pub record Written (s before table : List ℕ) (p : Cursor) : Type 0 where
  pub fuel : ℕ
  pub left : length s - p.at < fuel
  pub done : List Node
  pub read : all_nodes s ≡ done ++ nodes_at s fuel p
  pub count : p.nodes ≡ length done
  pub wide : length (records_of done) ≡ length done * 32
  pub bytes : table ≡ pasted before 4 (records_of done)
  pub same : length table ≡ length before
  pub counted : Counted s p

pub written_none : (s table : List ℕ) → Written s table table (record { at = 0; depth = 0; nodes = 0 })
unfolding join
written_none s table = record {
  fuel = suc (length s);
  left = omega arith;
  done = [];
  read = refl;
  count = refl;
  wide = refl;
  bytes = pasted-none table 4;
  same = refl;
  counted = record { within = omega arith; depth = omega arith; nodes = omega arith };
}

module _ (s before table : List ℕ) (p : Cursor) (h : (deepest (all_nodes s) ≤ 11) × (4 + length (all_nodes s) * 32 ≤ length before)) (w : Written s before table p) where
  pub written_roomy : Roomy s table p
  written_roomy = go w.fuel w.left w.read
    where
      go : (g : ℕ) → length s - p.at < g → all_nodes s ≡ w.done ++ nodes_at s g p → Roomy s table p
      go zero l r = absurd (omega arith)
      go (suc g) l r = record {
        counted = w.counted;
        fuel = g;
        room = λ x xs e.
            let q : all_nodes s ≡ w.done ++ (x ∷ xs) = r ∙ rw e in
            let len = ap length q ∙ length-append w.done (x ∷ xs) in
            let deep = rw q at h.0 in
            let c = w.count in
            let same = w.same in
            (omega (arith, h.1), omega (arith, deep, deepest_in w.done x xs));
      }

  pub written_on : (after : List ℕ) (q : Cursor) → Put s table after p q → length after ≡ length table → Written s before after q
  written_on after q x k = go w.fuel w.left w.read
    where
      whole : (rest : List Node) → all_nodes s ≡ w.done ++ rest → after ≡ pasted before 4 (records_of (w.done ++ x.own))
      whole rest r =
          let len = ap length r ∙ length-append w.done rest in
          let c = w.count in
          let wide = w.wide in
          let z : 4 + p.nodes * 32 ≡ 4 + length (records_of w.done) = omega (arith, ap (λ (n : ℕ). n * 32) c) in
          let fits : 4 + length (records_of w.done) ≤ length before = omega (arith, h.1) in
          x.bytes
          ∙ rw (z, w.bytes, records-append w.done x.own) (pasted-pasted before (records_of w.done) 4 fits (records_of x.own))

      go : (g : ℕ) → length s - p.at < g → all_nodes s ≡ w.done ++ nodes_at s g p → Written s before after q
      go zero l r = absurd (omega arith)
      go (suc g) l r =
          let n = length-append w.done x.own in
          let on = x.on in
          let within = x.counted.within in
          record {
            fuel = g;
            left = omega arith;
            done = w.done ++ x.own;
            read = r ∙ ap (λ (l : List Node). w.done ++ l) (x.read g) ∙ sym (append_assoc w.done x.own (nodes_at s g q));
            count = x.count ∙ omega (arith, n, w.count);
            wide = ap length (records-append w.done x.own) ∙ length-append (records_of w.done) (records_of x.own) ∙ omega (arith, n, w.wide, x.wide);
            bytes = whole (nodes_at s (suc g) p) r;
            same = k ∙ w.same;
            counted = x.counted;
          }

  pub written_all : ((f : ℕ) → nodes_at s f p ≡ []) → PutAll s before table p.nodes
  written_all e =
      let q : all_nodes s ≡ w.done = w.read ∙ rw (e w.fuel) (append-nil w.done) in
      record { count = w.count ∙ ap length (sym q); wide = rw q w.wide; bytes = w.bytes ∙ ap (λ (l : List Node). pasted before 4 (records_of l)) (sym q) }

-- The nodes of a document

abbrev Reads : ℕ → Type 0
Reads f = (d : ℕ) (s : List ℕ) (xs : List Token) → tokens_from f s ≡ got xs → nodes_from f d s ≡ token_nodes d xs

nodes_read : (f : ℕ) → Reads f
unfolding tokens_from nodes_from token_nodes
nodes_read zero d s xs e = absurd (let z : ◌≡◌ {A = ℕ} 0 1 = cc in omega arith)
nodes_read (suc f) d s xs e = go (λ k r ys. nodes_read f k r ys) (lex s) e
  where
    first : (y : Token) (ys : List Token) (rest : List Node) → rest ≡ token_nodes (depth_after d y) ys → own_nodes d y ++ rest ≡ token_nodes d (y ∷ ys)
    first (opens n) ys rest r = ap (λ (l : List Node). node d n ∷ l) (r ∙ rw (add-one d))
    first (closes n) ys rest r = r
    first (empty n) ys rest r = ap (λ (l : List Node). node d n ∷ l) r
    first (text l) ys rest r = ap (λ (m : List Node). node d l ∷ m) r

    on : Reads f → (y : Token) (n : ℕ) (T : Tokens) → tokens_from f (drop n s) ≡ T → with_token y T ≡ got xs → own_nodes d y ++ nodes_from f (depth_after d y) (drop n s) ≡ token_nodes d xs
    on later y n (got ys) r q =
        let z : y ∷ ys ≡ xs = cc in
        first y ys (nodes_from f (depth_after d y) (drop n s)) (later (depth_after d y) (drop n s) ys r) ∙ ap (token_nodes d) z
    on later y n bad r q = absurd (let z : ◌≡◌ {A = ℕ} 0 1 = cc in omega arith)

    go : Reads f → (x : Lexed) → on_lexed (λ y n. with_token y (tokens_from f (drop n s))) x ≡ got xs → on_token (λ y n. own_nodes d y ++ nodes_from f (depth_after d y) (drop n s)) x ≡ token_nodes d xs
    go later (token y n) q = on later y n (tokens_from f (drop n s)) refl q
    go later end q = let z : [] ≡ xs = cc in ap (token_nodes d) z
    go later bad q = absurd (let z : ◌≡◌ {A = ℕ} 0 1 = cc in omega arith)

pub document_nodes_lem : (s : List ℕ) → is_document s ≡ true → all_nodes s ≡ document_nodes s
unfolding is_document document_nodes
document_nodes_lem s e = go (tokens s) refl e
  where
    go : (T : Tokens) → tokens s ≡ T → good_tokens T ≡ true → all_nodes s ≡ nodes_of_tokens T
    go (got xs) r q = nodes_read (suc (length s)) 0 s xs r
    go bad r q = absurd (let z : ◌≡◌ {A = ℕ} 0 1 = cc in omega arith)

module _ (s before : List ℕ) (h : Writable s before) where
  pub loads : (deepest (all_nodes s) ≤ 11) × (4 + length (all_nodes s) * 32 ≤ length before)
  loads = rw (document_nodes_lem s h.document) (h.levels, h.room)

  module _ (table : List ℕ) (n : ℕ) (x : PutAll s before table n) where
    pub count_fits : (4 ≤ length before) × (n < 2 ^ 32)
    count_fits = let c = rw (document_nodes_lem s h.document) at x.count in let r = h.room in let f = h.few in (omega arith, omega arith)

    pub loaded : (after : List ℕ) → after ≡ le4 n ++ drop 4 table → after ≡ table_bytes (length before) (map node_bytes (document_nodes s))
    loaded after e =
        let N : List Node = document_nodes s in
        let R : List ℕ = records_of N in
        let same = document_nodes_lem s h.document in
        let c : n ≡ length N = rw same at x.count in
        let wide : length R ≡ length N * 32 = rw same at x.wide in
        let bytes : table ≡ pasted before 4 R = rw same at x.bytes in
        let room = h.room in
        let rest : drop (4 + length R) before ≡ replicate (length before - (4 + length R)) 0 =
        zero_replicate (drop (4 + length R) before)
        (rw (drop-drop (length R) 4 before) at (both (all is_zero (take (length R) (drop 4 before))) _ (sym (all_split is_zero (drop 4 before) (length R)) ∙ h.clear)).1)
        ∙ ap (λ (k : ℕ). replicate k 0) (length-drop (4 + length R) before) in
        let tail : drop 4 table ≡ R ++ replicate (length before - (4 + length N * 32)) 0 =
        ap (drop 4) (bytes ∙ append_assoc (take 4 before) R (drop (4 + length R) before))
        ∙ drop_at (take 4 before) (R ++ drop (4 + length R) before) 4 (length-take-le 4 before (omega arith))
        ∙ rw (rest, wide) in
        e ∙ rw (tail, c, length-map N node_bytes)
