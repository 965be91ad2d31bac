-- Every accepted insertion, from the table before the line to the table after it: "The tree lands directly beside it, or as last child in the stored tree." Assumes
-- nothing.
use Prim.Native.Nat.{ℕ, zero, suc, ◌+◌, ◌*◌, ◌≤◌}
use mathlib.Core.Path.{◌≡◌, refl, sym, ap, ap₂, subst, ◌∙◌}
use mathlib.Core.Bool.{Bool, true, and-eq-true_iff}
use mathlib.Core.List.{List, [], ◌∷◌, map}
use native.Mathlib.Omega.{arith}
use borrow.Author.Tests.{leb-true}
use lib.ListN.{length, take, length-map}
use lib.Seq.{take_all}
use Rattle.rights.specs.Marks.{mark_count}
use Rattle.rights.specs.Nodes.{Node, node}
use Rattle.rights.specs.Table.{count, records, table_ok}
use Rattle.rights.specs.Held.{node_in, stored_nodes}
use Rattle.rights.specs.Tree.{Tree, tree, none, nodes_of, size_of}
use Rattle.rights.proofs.RecordOfLaws.{level_made, label_made}
use Rattle.views.specs.Change.{chunks}
use Rattle.views.specs.StoredTree.{HoldsTree, Lands}
use Rattle.views.specs.declared.done.Change.{Change}
use Rattle.views.specs.declared.done.Change.TheVariants as change
use Rattle.views.specs.declared.insert.Place.{Place}
use Rattle.views.specs.declared.insert.Place.TheVariants as place
use Rattle.views.proofs.StoredTreeLaws.{placed_in_tree}
use Rattle.views.proofs.TableKept.{length-records, length-placed}
use Rattle.views.proofs.ViewLaws.{stored-nested}
use Rattle.answers.specs.Answer.{ok_text, done_text}
use Rattle.answers.proofs.AnswerTreeLaws.{tree_of_view}
use Rattle.forms.specs.declared.layout.Word.TheVariants as word
use Rattle.forms.specs.Form.{ReadForm, read_form}
use Rattle.forms.specs.Command.{Command, command, form_of}
use Rattle.forms.specs.Text.{line_ok}
use Rattle.forms.specs.Tree.{held, records_of}
use Rattle.forms.proofs.TreeTextLaws.{UpTo, levels-held}
use Rattle.lines.specs.Effect.{Effect, root, insertion, table_after}
use Rattle.lines.specs.Outcome.{says, Outcome}
use Rattle.lines.specs.UserView.{marks_in, done_in}
use Rattle.lines.specs.Work.{root_alone, change_at}
use Rattle.lines.proofs.ChangeLaws.{done_size}
use Rattle.lines.proofs.StateLaws.{store_held}
use Rattle.lines.proofs.TreeRows.{node_records}
use Rattle.lines.specs.State.{stage_d, stage}
use Rattle.lines.specs.Clause.{work_of}
use Rattle.store.specs.Line.{step}
use Rattle.store.proofs.FormParts.{TreePart, Fits, form_fits}
use Rattle.guarantee.proofs.Accepted.{Accepted, line_work, accepted, answer_is}
use Rattle.guarantee.proofs.Sound.{EffectSound, RootSound, InsertSound}
use Rattle.guarantee.proofs.StoreKept.{root_held}
use Rattle.guarantee.proofs.TableAfter.{table_after_lem}
use Rattle.guarantee.proofs.TreeRecords.{tree_records}

-- A table that passes and has a root holds a tree.
pub table_tree : (t : List ℕ) → table_ok t ≡ true → 1 ≤ count t → (u : Tree) × HoldsTree t u
table_tree t ok h =
    let x = tree_of_view (stored_nodes t) (omega (arith, h, length-map (records t) node_in, length-records t)) (stored-nested t ok) in
    (x.0, sym x.1)

-- what the records of nodes say
nodes_back : (ns : List Node) → UpTo 255 ns → map node_in (node_records ns) ≡ ns
nodes_back [] u = refl
nodes_back (node l x ∷ ns) u =
    let e : held l ≡ l = omega (arith, u.0) in
    ap₂ (λ (n : Node) (r : List Node). n ∷ r) (ap₂ node (level_made (held l) x _ ∙ e) (label_made (held l) x _)) (nodes_back ns u.1)

short_line : (line : List ℕ) → line_ok line ≡ true → length line ≤ 1024
unfolding line_ok
short_line line ok = let f = simp (line_ok, and-eq-true_iff) at ok in leb-true (length line) 1024 f.0

-- the records of the line's tree are its nodes
line_tree : (line : List ℕ) (new : Tree) → line_ok line ≡ true → TreePart line (nodes_of 0 new) → map node_in (chunks (size_of new) (records_of (nodes_of 0 new))) ≡ nodes_of 0 new
line_tree line new ok x =
    let h : UpTo 255 (nodes_of 0 x.is) = levels-held x.is x.good (omega (arith, x.short, short_line line ok)) in
    ap (map node_in) (tree_records line (nodes_of 0 new) x) ∙ nodes_back (nodes_of 0 x.is) h ∙ sym x.nodes

root_marked : (n : ℕ) → 1 ≤ n → mark_count (take n root_alone) ≡ mark_count root_alone
root_marked zero h = absurd (omega arith)
root_marked (suc zero) h = refl
root_marked (suc (suc n)) h = refl

-- `(append P TREE)`, `(before P TREE)`, `(after P TREE)`
abbrev pub insert_command : Place → List ℕ → Tree → Command
insert_command place.Append path new = command word.Append (path, (new, tt))
insert_command place.Before path new = command word.Before (path, (new, tt))
insert_command place.After path new = command word.After (path, (new, tt))

module _ (s t line : List ℕ) (room : ℕ) (text : List ℕ) (answered : (step s t line room).reply ≡ says text) where
  taken : Accepted s t line room
  taken = accepted s t line room text answered

  -- An accepted `(root L)` leaves a tree of the root alone.
  pub root_lands : (l : List ℕ) → read_form line ≡ form_of (command word.Root (l, tt)) → HoldsTree (step s t line room).table (tree l none) × (text ≡ ok_text)
  unfolding nodes_of
  root_lands l q =
      let e : (line_work s t line).effect ≡ root l = ap (λ (f : ReadForm). (work_of f s t).effect) q in
      let sound : RootSound s t l = subst (λ (f : Effect). EffectSound (read_form line) s t f) e taken.sound in
      let a = table_after_lem (read_form line) s t (store_held s t taken.passes).table (root l) sound in
      let t' : (step s t line room).table ≡ table_after (root l) t = ap (λ (o : Outcome). o.table) taken.is ∙ ap (λ (f : Effect). table_after f t) e in (
        rw t' (ap (map node_in) a.held ∙ ap₂ (λ (k : ℕ) (x : List ℕ). node k x ∷ []) (level_made 0 l _) (label_made 0 l _)),
        answer_is s t line room text answered ∙ ap (λ (f : ReadForm). (work_of f s t).text) q,
      )

  module _ (new : Tree) where
    abbrev tree-bytes : List ℕ
    tree-bytes = records_of (nodes_of 0 new)

    lands-by : (at : Place) (ms : List Bool) (g : ℕ) → (line_work s t line).effect ≡ insertion at ms (size_of new) tree-bytes g → TreePart line (nodes_of 0 new)
        → (1 ≤ count t → mark_count (take (count t) ms) ≡ mark_count ms) → Lands at ms new t (step s t line room).table
    lands-by at ms g e x c =
        let h = store_held s t taken.passes in
        let m = size_of new in
        let sound : InsertSound s t at ms m tree-bytes g = subst (λ (f : Effect). EffectSound (read_form line) s t f) e taken.sound in
        let a = table_after_lem (read_form line) s t h.table (insertion at ms m tree-bytes g) sound in
        let t' : (step s t line room).table ≡ table_after (insertion at ms m tree-bytes g) t = ap (λ (o : Outcome). o.table) taken.is ∙ ap (λ (f : Effect). table_after f t) e in
        let r : 1 ≤ count t = root_held s t h sound.rooted in
        record {
          held = table_tree t h.table r;
          lands = λ u k. rw t' (ap (map node_in) a.held ∙ placed_in_tree at m tree-bytes ms (records t) new u k (line_tree line new taken.bytes x) sound.spared);
          counted =
              rw t' (sym (length-records (table_after (insertion at ms m tree-bytes g) t)) ∙ ap length a.held ∙ length-placed at t ms tree-bytes m ∙ ap (λ (d : ℕ). count t + d * m) (c r));
        }

    all_marks : (c : Change) (path : List ℕ) → mark_count (take (count t) (done_in c s t path)) ≡ mark_count (done_in c s t path)
    all_marks c path = ap mark_count (take_all (count t) (done_in c s t path) (omega (arith, done_size c s t path)))

    marked_by : (c : Change) (at : Place) (p : List ℕ) (f : ReadForm) → read_form line ≡ f
        → (work_of f s t).effect ≡ insertion at (done_in c s t p) (size_of new) tree-bytes (stage s)
        → (work_of f s t).text ≡ done_text (mark_count (marks_in s t p)) (mark_count (done_in c s t p))
        → TreePart line (nodes_of 0 new)
        → Lands at (done_in c s t p) new t (step s t line room).table × (text ≡ done_text (mark_count (marks_in s t p)) (mark_count (done_in c s t p)))
    marked_by c at p f q e d x = (
      lands-by at (done_in c s t p) (stage s) (ap (λ (f : ReadForm). (work_of f s t).effect) q ∙ e) x (λ r. all_marks c p),
      answer_is s t line room text answered ∙ ap (λ (f : ReadForm). (work_of f s t).text) q ∙ d,
    )

    fits : {f : ReadForm} → read_form line ≡ f → Fits line f
    fits q = subst (Fits line) q (form_fits line)

    -- An accepted insertion leaves the stored tree with TREE at every node that is done, and at no other, and says how many these are: `(append P TREE)` as its last
    -- child, `(before P TREE)` directly before it, `(after P TREE)` directly after it.
    pub insert_lands : (at : Place) (p : List ℕ) → read_form line ≡ form_of (insert_command at p new)
        → Lands at (done_in (change_at at) s t p) new t (step s t line room).table
        × (text ≡ done_text (mark_count (marks_in s t p)) (mark_count (done_in (change_at at) s t p)))
    insert_lands place.Append p q = marked_by change.Append place.Append p (form_of (insert_command place.Append p new)) q refl refl (fits q).1.0
    insert_lands place.Before p q = marked_by change.Before place.Before p (form_of (insert_command place.Before p new)) q refl refl (fits q).1.0
    insert_lands place.After p q = marked_by change.After place.After p (form_of (insert_command place.After p new)) q refl refl (fits q).1.0

    -- An accepted `(child TREE)`: "last child of the root".
    pub child_lands : read_form line ≡ form_of (command word.Child (new, tt)) → Lands place.Append root_alone new t (step s t line room).table × (text ≡ ok_text)
    child_lands q = (
      lands-by place.Append root_alone stage_d (ap (λ (f : ReadForm). (work_of f s t).effect) q) (fits q).0 (root_marked (count t)),
      answer_is s t line room text answered ∙ ap (λ (f : ReadForm). (work_of f s t).text) q,
    )
