-- A rule's path selects what XPath selects in the stored tree, and rights are what the last rule says that XPath's selection makes applicable. Assumes nothing.
use Prim.Native.Nat.{ℕ, zero, suc, ◌+◌, ◌*◌, ◌≤◌, ◌<◌}
use mathlib.Core.Path.{◌≡◌, refl, sym, ap, ◌∙◌, fun_ext}
use mathlib.Core.List.{List, [], ◌∷◌, ◌++◌, map, append_assoc}
use mathlib.Core.Bool.{Bool, true, false, ◌&&◌, ◌||◌, and-true, and-false, or-true, or-false, or_comm, and_assoc, and-or_distrib_left, and-or_distrib_right, and-eq-true_iff}
use native.Mathlib.Nat.{add-zero, add-suc, suc-add, zero-add}
use native.Mathlib.Omega.{arith}
use borrow.Author.Tests.{leb-true, ltb-true, ltb-false, ne_eqb}
use lib.Dec.{eqb, ltb}
use lib.ListN.{length, get_or, take, length-map, get_or-map}
use lib.Seq.{take-nil, take_all, take-append-le, take-take, length-take-le}
use Rattle.rights.specs.Path.{Test, Axis, is_descendant, passes}
use Rattle.rights.specs.Isa.{is, passes_own, NamesOf}
use Rattle.rights.specs.Policy.{Right, bit_of, Rule, Policy}
use Rattle.rights.specs.PolicyBytes.{policy_of, rule_count, step_count, steps_at, step_of, steps_from, stored_path}
use Rattle.rights.specs.PolicyCheck.{rule_ok, rules_ok, policy_ok}
use Rattle.rights.specs.Table.{rec_at, record_at, records_from, records, level, label, count, record_ok, records_ok, table_ok}
use Rattle.rights.specs.Nodes.{node, level_of, label_of, level_at, label_at, TreeShaped}
use Rattle.rights.specs.Rights.{Step, step_for, reaches, path_for, applies, last_says, has_right, holds, rights_by, chains, rights_on}
use Rattle.rights.specs.Held.{stored_nodes}
use Rattle.rights.specs.RuleXPath.{plain_path, steps_selected}
use Rattle.rights.specs.How.Automaton.{chain_to, chain_of}
use Rattle.rights.specs.How.Selection.{above, under, keeps, selects, from_document}
use Rattle.rights.proofs.ChainLaws.{grown, fit, chains-length}
use Rattle.rights.proofs.EveryLaws.{every_at}
use Rattle.rights.proofs.ListLaws.{by_case}
use Rattle.rights.proofs.OwnNames.{names_fixed}
use Rattle.rights.proofs.PassLaws.{map_at}
use Rattle.rights.proofs.RightsLaws.{rights_are}
use Rattle.rights.proofs.TableLaws.{both, record_levels, table_records}
use Rattle.rights.proofs.XPathLaws.{path_selects}

-- A chain's last step

-- f holds of the whole chain, or, where d, of a beginning of it
unfoldable up_to : Bool → (List (List ℕ) → Bool) → List (List ℕ) → Bool
up_to d f [] = f []
up_to d f (x ∷ xs) = (d && f []) || up_to d (λ ys. f (x ∷ ys)) xs

up_more : (d : Bool) (f : List (List ℕ) → Bool) (xs : List (List ℕ)) (x : List ℕ) → up_to d f (xs ++ (x ∷ [])) ≡ f (xs ++ (x ∷ [])) || (d && up_to d f xs)
unfolding up_to
up_more d f [] x = or_comm (d && f []) (f (x ∷ []))
up_more d f (y ∷ xs) x = rw (up_more d (λ ys. f (y ∷ ys)) xs x) (go d (f []) (f (y ∷ (xs ++ (x ∷ [])))) (up_to d (λ ys. f (y ∷ ys)) xs))
  where
    go : (d a b c : Bool) → (d && a) || (b || (d && c)) ≡ b || (d && ((d && a) || c))
    go false a b c = refl
    go true true true c = refl
    go true true false c = refl
    go true false b c = refl

up_none : (d : Bool) (xs : List (List ℕ)) → up_to d (λ ys. false) xs ≡ false
unfolding up_to
up_none d [] = refl
up_none d (x ∷ xs) = rw (and-false d, up_none d xs)

up_either : (d a b : Bool) (f g : List (List ℕ) → Bool) (xs : List (List ℕ)) → up_to d (λ ys. (a && f ys) || (b && g ys)) xs ≡ (a && up_to d f xs) || (b && up_to d g xs)
unfolding up_to
up_either d a b f g [] = refl
up_either d a b f g (x ∷ xs) = rw (up_either d a b (λ ys. f (x ∷ ys)) (λ ys. g (x ∷ ys)) xs) (go d a b (f []) (g []) _ _)
  where
    go : (d a b p q u v : Bool) → (d && ((a && p) || (b && q))) || ((a && u) || (b && v)) ≡ (a && ((d && p) || u)) || (b && ((d && q) || v))
    go false a b p q u v = refl
    go true false b p q u v = sym (and-or_distrib_left b q v)
    go true true false p q u v = rw (or-false p, or-false u, or-false (p || u))
    go true true true true q u v = refl
    go true true true false true true v = refl
    go true true true false true false v = refl
    go true true true false false u v = refl

-- from the document node: `/` goes to the root alone
up_document : (d : Bool) (xs : List (List ℕ)) → up_to d (reaches []) xs ≡ d || eqb (length xs) 0
unfolding up_to reaches
up_document d [] = sym (or-true d)
up_document d (x ∷ xs) = rw (up_none d xs, and-true d, ne_eqb (length (x ∷ xs)) 0 (λ z. omega arith))

reaches_nothing : (ss : List Step) (s : Step) → reaches (ss ++ (s ∷ [])) [] ≡ false
unfolding reaches
reaches_nothing [] s = refl
reaches_nothing (q ∷ qs) s = refl

nothing_reaches : (xs : List (List ℕ)) (x : List ℕ) → reaches [] (xs ++ (x ∷ [])) ≡ false
unfolding reaches
nothing_reaches [] x = refl
nothing_reaches (y ∷ ys) x = refl

-- the last step takes the last label, and the steps before it reach its parent, or, if it goes to all descendants, an ancestor
reaches_last : (ss : List Step) (s : Step) (xs : List (List ℕ)) (x : List ℕ) → reaches (ss ++ (s ∷ [])) (xs ++ (x ∷ [])) ≡ up_to s.deep (reaches ss) xs && s.passed x
unfolding reaches up_to
reaches_last [] s [] x = rw (and-true (s.passed x), and-false s.deep, or-false (s.passed x))
reaches_last [] s (y ∷ ys) x =
    rw (nothing_reaches ys x, reaches_last [] s ys x, up_document s.deep ys, up_none s.deep ys) (go (s.passed y) s.deep (eqb (length ys) 0) (s.passed x))
  where
    go : (q d e p : Bool) → (q && false) || (d && ((d || e) && p)) ≡ ((d && true) || false) && p
    go true true e p = refl
    go true false e p = refl
    go false true e p = refl
    go false false e p = refl
reaches_last (q ∷ qs) s [] x = rw (reaches_nothing qs s, and-false (q.passed x), and-false q.deep)
reaches_last (q ∷ qs) s (y ∷ ys) x =
    rw (reaches_last qs s ys x, reaches_last (q ∷ qs) s ys x, up_either s.deep (q.passed y) q.deep (reaches qs) (reaches (q ∷ qs)) ys, and-false s.deep)
    (go (q.passed y) q.deep _ _ (s.passed x))
  where
    go : (a b u v p : Bool) → (a && (u && p)) || (b && (v && p)) ≡ ((a && u) || (b && v)) && p
    go a b u v p = rw (and-or_distrib_right (a && u) (b && v) p, and_assoc a u p, and_assoc b v p)

-- The stored nodes

record_at_lem : (t : List ℕ) (n i k : ℕ) → k < n → get_or (records_from t n i) k [] ≡ record_at t (i + k)
unfolding records_from
record_at_lem t zero i k h = absurd (omega arith)
record_at_lem t (suc n) i zero h = rw (add-zero i)
record_at_lem t (suc n) i (suc k) h = rw (add-suc i k, ← suc-add i k) (record_at_lem t n (suc i) k (omega arith))

records-length : (t : List ℕ) (n i : ℕ) → length (records_from t n i) ≡ n
unfolding records_from
records-length t zero i = refl
records-length t (suc n) i = ap suc (records-length t n (suc i))

chain_at : (t : List ℕ) (n i k : ℕ) → k < n → get_or (chains (chain_to t i) (records_from t n i)) k [] ≡ chain_of t (i + k)
unfolding chains records_from chain_to
chain_at t zero i k h = absurd (omega arith)
chain_at t (suc n) i zero h = rw (add-zero i)
chain_at t (suc n) i (suc k) h = chain_at t n (suc i) k (omega arith) ∙ ap (λ (j : ℕ). chain_of t j) (suc-add i k ∙ sym (add-suc i k))

-- no record but the first has level 0
low : (t : List ℕ) (high n i k : ℕ) → records_ok 1 high (records_from t n i) ≡ true → k < n → 0 < level (record_at t (i + k))
unfolding records_ok records_from
low t high zero i k e h = absurd (omega arith)
low t high (suc n) i zero e h = rw (add-zero i) (record_levels 1 high (record_at t i) (both (record_ok 1 high (record_at t i)) _ e).0).0
low t high (suc n) i (suc k) e h = rw (add-suc i k, ← suc-add i k) (low t (level (record_at t i) + 1) n (suc i) k (both (record_ok 1 high (record_at t i)) _ e).1 (omega arith))

module _ (t : List ℕ) (ok : table_ok t ≡ true) where
  node_at_lem : (i : ℕ) → i < count t → get_or (stored_nodes t) i (node 0 []) ≡ node (level (record_at t i)) (label (record_at t i))
  node_at_lem i h = rw (get_or-map (λ r. node (level r) (label r)) (records t) i [], record_at_lem t (count t) 0 i h, zero-add i)

  level_at_lem : (i : ℕ) → i < count t → level_at (stored_nodes t) i ≡ level (record_at t i)
  unfolding level_at
  level_at_lem i h = ap level_of (node_at_lem i h)

  label_at_lem : (i : ℕ) → i < count t → label_at (stored_nodes t) i ≡ label (record_at t i)
  unfolding label_at
  label_at_lem i h = ap label_of (node_at_lem i h)

  stored-length : length (stored_nodes t) ≡ count t
  stored-length = length-map (records t) (λ r. node (level r) (label r)) ∙ records-length t (count t) 0

  -- a record's level is at most the length of the chain before it, and its own chain is one longer than its level
  level_fits : (i : ℕ) → i < count t → level (record_at t i) ≤ length (chain_to t i)
  level_fits i h = fit t (count t) i (table_records t ok) h

  chain_length : (i : ℕ) → i < count t → length (chain_to t (suc i)) ≡ level (record_at t i) + 1
  chain_length i h = grown t i (level_fits i h)

  deeper : (i n : ℕ) → suc i < n → records_ok 0 0 (records_from t n 0) ≡ true → 0 < level (record_at t (suc i))
  unfolding records_ok records_from
  deeper i zero h e = absurd (omega arith)
  deeper i (suc n) h e =
      let z : 1 + i ≡ suc i = omega arith in
      rw z at (low t (level (record_at t 0) + 1) n 1 i (both (record_ok 0 0 (record_at t 0)) _ e).1 (omega arith))

  root_level : (n : ℕ) → count t ≡ n → level_at (stored_nodes t) 0 ≡ 0
  unfolding level_at chain_to records_from
  root_level zero e = rw e
  root_level (suc n) e = rw (level_at_lem 0 (omega arith)) (omega (arith, level_fits 0 (omega arith)))

  -- the stored nodes are a tree
  pub stored_tree : TreeShaped (stored_nodes t)
  stored_tree = record {
    root = root_level (count t) refl;
    one = λ i a b. one i a (omega (arith, stored-length));
    steps = λ i a.
        let h : suc i < count t = omega (arith, stored-length) in
        let k : i < count t = omega arith in
        rw (level_at_lem (suc i) h, level_at_lem i k) (omega (arith, level_fits (suc i) h, chain_length i k));
  }
    where
      one : (i : ℕ) → 0 < i → i < count t → 0 < level_at (stored_nodes t) i
      one zero a b = absurd (omega arith)
      one (suc i) a b = rw (level_at_lem (suc i) b) (deeper i (count t) b (table_records t ok))

  -- A path without brackets along the chains

  -- the nodes above a node, seen from the chain before it cut at the node's level
  above_chain : (a : Axis) (f : ℕ → Bool) (g : List (List ℕ) → Bool) → g [] ≡ false → (l i : ℕ) → i ≤ count t → l ≤ length (chain_to t i)
      → ((k : ℕ) → k < i → f k ≡ g (chain_of t k)) → above (stored_nodes t) a f l i ≡ up_to (is_descendant a) g (take l (chain_to t i))
  unfolding above up_to chain_to
  above_chain a f g e l zero h k q = rw (take-nil {A = List ℕ} l) (sym e)
  above_chain a f g e l (suc i) h k q =
      let at = level_at_lem i (omega arith) in
      let len = chain_length i (omega arith) in
      let m : ℕ = level (record_at t i) in
      let d : Bool = is_descendant a in
      let c : List (List ℕ) = chain_to t i in
      by_case (ltb m l)
      (λ r. let lt = ltb-true m l r in
      rw (at, r, take_all l (chain_of t i) (omega arith), q i (omega arith), above_chain a f g e m i (omega arith) (level_fits i (omega arith)) (λ j x. q j (omega arith)))
      (sym (up_more d g (take m c) (label (record_at t i)))))
      (λ r. let ge = ltb-false m l r in
      let fits = level_fits i (omega arith) in
      rw (at, r, above_chain a f g e l i (omega arith) (omega arith) (λ j x. q j (omega arith)))
      (ap (up_to d g) (sym (take-append-le l (take m c) _ (omega (arith, length-take-le m c fits)) ∙ take-take l m c ge))))

  -- where a first step goes, for the steps ss before it
  abbrev Goes : List Step → (Axis → ℕ → Bool) → Type 0
  Goes ss c = (a : Axis) (j : ℕ) → j < count t → c a j ≡ up_to (is_descendant a) (reaches ss) (take (level (record_at t j)) (chain_to t j))

  from_document_lem : Goes [] from_document
  unfolding chain_to
  from_document_lem a zero h = rw (take-nil {A = List ℕ} (level (record_at t 0))) (sym (up_document (is_descendant a) []))
  from_document_lem a (suc j) h =
      let n = length-take-le (level (record_at t (suc j))) (chain_to t (suc j)) (level_fits (suc j) h) in
      rw (up_document (is_descendant a) (take (level (record_at t (suc j))) (chain_to t (suc j))), n, ne_eqb (suc j) 0 (λ z. omega arith))
      (ap (λ (b : Bool). is_descendant a || b) (sym (ne_eqb (level (record_at t (suc j))) 0 (λ z. omega (arith, z, deeper j (count t) h (table_records t ok))))))

  module _ (mine : List ℕ → Bool) where
    step-reaches : (w : Axis × Test) (ss : List Step) (c : Axis → ℕ → Bool) → Goes ss c → (k : ℕ) → k < count t
        → c w.0 k && passes mine w.1 (label_at (stored_nodes t) k) ≡ reaches (ss ++ (step_for mine w ∷ [])) (chain_of t k)
    unfolding chain_to
    step-reaches w ss c to k h =
        rw (to w.0 k h, label_at_lem k h) (sym (reaches_last ss (step_for mine w) (take (level (record_at t k)) (chain_to t k)) (label (record_at t k))))

    steps-reach : (w : Axis × Test) (ws : List (Axis × Test)) (ss : List Step) (c : Axis → ℕ → Bool) → Goes ss c → (i : ℕ) → i < count t
        → selects (plain_path w ws) mine (stored_nodes t) c i ≡ reaches (ss ++ map (step_for mine) (w ∷ ws)) (chain_of t i)
    unfolding selects keeps plain_path
    steps-reach w [] ss c to i h = step-reaches w ss c to i h
    steps-reach w (v ∷ vs) ss c to i h =
        let s : Step = step_for mine w in
        let f : ℕ → Bool = λ k. c w.0 k && passes mine w.1 (label_at (stored_nodes t) k) in
        steps-reach v vs (ss ++ (s ∷ [])) (λ b j. under b f (stored_nodes t) j)
        (λ b j l. rw (level_at_lem j l) (above_chain b f (reaches (ss ++ (s ∷ []))) (reaches_nothing ss s) (level (record_at t j)) j (omega arith) (level_fits j l) (λ k x. step-reaches w ss c to k (omega arith))))
        i h
        ∙ ap (λ q. reaches q (chain_of t i)) (append_assoc ss (s ∷ []) (map (step_for mine) (v ∷ vs)))

    stored-selected : (ws : List (Axis × Test)) (i : ℕ) → i < count t → reaches (map (step_for mine) ws) (chain_of t i) ≡ steps_selected ws mine (stored_nodes t) i
    unfolding steps_selected chain_to
    stored-selected [] i h = nothing_reaches (take (level (record_at t i)) (chain_to t i)) (label (record_at t i))
    stored-selected (w ∷ ws) i h =
        sym (path_selects mine (stored_nodes t) stored_tree (plain_path w ws) i (omega (arith, stored-length)) ∙ steps-reach w ws [] from_document from_document_lem i h)

  -- The laws

  chain_is : (i : ℕ) → i < count t → get_or (chains [] (records t)) i [] ≡ chain_of t i
  unfolding chain_to
  chain_is i h = rw (zero-add i) at (chain_at t (count t) 0 i h)

  -- the path of a rule reaches a node of the stored tree exactly if XPath selects it
  pub reaches_xpath : (P : Policy) (u : ℕ) (r : Rule) (i : ℕ) → i < count t
      → reaches (path_for P u r) (get_or (chains [] (records t)) i []) ≡ steps_selected r.path (passes_own P u) (stored_nodes t) i
  reaches_xpath P u r i h = rw (chain_is i h) (stored-selected (passes_own P u) r.path i h)

  -- "A rule applies to a subject that is its N, and to the nodes its path selects in the stored tree", for `$` with the names of all that the subject is
  pub applies_xpath : (P : Policy) (u : ℕ) (mine : List ℕ → Bool) → NamesOf P u mine → (r : Rule) (i : ℕ) → i < count t
      → applies P u (get_or (chains [] (records t)) i []) r ≡ is P u r.who && steps_selected r.path mine (stored_nodes t) i
  applies_xpath P u mine names r i h =
      ap (λ (b : Bool). is P u r.who && b)
      (reaches_xpath P u r i h ∙ ap (λ (own : List ℕ → Bool). steps_selected r.path own (stored_nodes t) i) (names_fixed P u mine names))

  -- "The last applicable rule for a right wins; with none, no right": every right of every subject on every node of the stored tree
  pub rights_xpath : (p : List ℕ) → policy_ok p ≡ true → (u : ℕ) (mine : List ℕ → Bool) → NamesOf (policy_of p) u mine → (w : Right) (i : ℕ) → i < count t
      → holds w (get_or (rights_on (policy_of p) u (records t)) i 0)
      ≡ last_says (λ r. eqb r.right (bit_of w) && (is (policy_of p) u r.who && steps_selected r.path mine (stored_nodes t) i)) false (policy_of p).rules
  unfolding has_right chain_to
  rights_xpath p sound u mine names w i h =
      ap (holds w) (map_at (rights_by (policy_of p) u) (chains [] (records t)) i [] 0 (omega (arith, h, chains-length [] (records t), records-length t (count t) 0)))
      ∙ rights_are p sound u w (get_or (chains [] (records t)) i [])
      ∙ ap (λ (f : Rule → Bool). last_says f false (policy_of p).rules)
      (fun_ext (λ r. ap (λ (b : Bool). eqb r.right (bit_of w) && b) (applies_xpath (policy_of p) u mine names r i h)))

-- a rule of a policy that passed its check has a step, so `steps_selected` asks XPath for every one
pub rule_has_path : (p : List ℕ) → policy_ok p ≡ true → (k : ℕ) → k < rule_count p → (w : Axis × Test) × (ws : List (Axis × Test)) × (stored_path p k ≡ w ∷ ws)
unfolding policy_ok rules_ok rule_ok steps_from
rule_has_path p ok k h =
    let r = (simp (policy_ok, and-eq-true_iff) at ok).1.1.1.1 in
    go (step_count p k) (leb-true 1 _ (simp (rule_ok, and-eq-true_iff) at (every_at (rule_ok p) (rule_count p) k h r.1.0)).1.1.1.0)
  where
    go : (n : ℕ) → 1 ≤ n → (w : Axis × Test) × (ws : List (Axis × Test)) × (steps_from p (steps_at k) n 0 ≡ w ∷ ws)
    go zero l = absurd (omega arith)
    go (suc n) l = (step_of (rec_at p (steps_at k + 0 * 32)), steps_from p (steps_at k) n 1, refl)
