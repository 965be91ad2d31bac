-- The schools of specs/Witness.antt: the policy and the tables that the lines write, and what stands behind RESTRICTED there. Computed; assumes nothing.
use Prim.Native.Nat.{ℕ}
use Prim.Native.String.{String}
use mathlib.Core.Path.{◌≡◌, refl, sym, ap, ◌∙◌}
use mathlib.Core.Bool.{true, false, true≢false}
use mathlib.Core.List.{List, [], ◌∷◌}
use mathlib.Core.Logic.{inl, inr}
use native.Mathlib.Omega.{arith}
use lib.ListN.{get_or}
use Rattle.rights.specs.Bytes.{bytes, all}
use Rattle.rights.specs.Labels.{label_byte, folded, same_label}
use Rattle.rights.specs.Path.{label, any, own, passes}
use Rattle.rights.specs.declared.path.Axis.TheVariants.{Child, Descendant}
use Rattle.rights.specs.Isa.{is_by, stands_for, subjects_where, passes_own}
use Rattle.rights.specs.Marks.{keep, each_from}
use Rattle.rights.specs.Nodes.{Nodes}
use Rattle.rights.specs.Policy.{Policy, some, policy_word}
use Rattle.rights.specs.Record.{padded, record_of, node_record}
use Rattle.rights.specs.Rights.{reaches, decide, rights_by, chains, rights_on}
use Rattle.rights.specs.Table.{records_from, records}
use Rattle.views.specs.Change.{join, changed}
use Rattle.views.specs.Shown.{Stored, stored_from, stored, at_parent, nearest_first, shown_after, shown, view}
use Rattle.guarantee.specs.Alike.{NoWordDiffers, Behind}
use Rattle.guarantee.specs.Cases.{new_table}

-- the policy and the table that the lines write
abbrev pub the_policy : Policy
the_policy =
    record {
      names = bytes "SHA" ∷ [];
      isa = [];
      rules =
          record { accept = true; right = 1; who = 0; path = (Descendant, any) ∷ [] }
          ∷ record { accept = true; right = 2; who = 0; path = (Descendant, label (bytes "note")) ∷ (Child, any) ∷ [] }
          ∷ record { accept = true; right = 16; who = 0; path = (Descendant, label (bytes "flu")) ∷ [] }
          ∷ record { accept = true; right = 16; who = 0; path = (Descendant, own) ∷ [] }
          ∷ [];
    }

abbrev pub the_table : String → List ℕ
the_table inner = changed (new_table 10) (node_record 0 (bytes "school") ∷ node_record 1 (bytes inner) ∷ [])

-- what SHA is shown on the first day, and how it looks
abbrev pub nodes_in : String → List Stored
nodes_in inner = stored 1 (the_table inner) (rights_on the_policy 0 (records (the_table inner)))

abbrev pub shown_of : String → List Stored
shown_of inner = keep (shown (nodes_in inner)) (nodes_in inner)

abbrev pub look_of : String → Nodes
look_of inner = view (nodes_in inner)

-- the second supposition
abbrev pub BehindBoth : String → String → Type 0
BehindBoth one other = Behind the_policy (shown_of one) (shown_of other)

pub look_ill_cold : look_of "ill" ≡ look_of "cold"
unfolding all label_byte folded same_label passes some passes_own policy_word is_by stands_for subjects_where reaches decide rights_by chains records_from padded record_of stored_from at_parent nearest_first shown_after keep each_from join changed
look_ill_cold = refl

pub look_ill_flu : look_of "ill" ≡ look_of "flu"
unfolding all label_byte folded same_label passes some passes_own policy_word is_by stands_for subjects_where reaches decide rights_by chains records_from padded record_of stored_from at_parent nearest_first shown_after keep each_from join changed
look_ill_flu = refl

pub look_ill_sha : look_of "ill" ≡ look_of "SHA"
unfolding all label_byte folded same_label passes some passes_own policy_word is_by stands_for subjects_where reaches decide rights_by chains records_from padded record_of stored_from at_parent nearest_first shown_after keep each_from join changed
look_ill_sha = refl

pub look_in_any_case : look_of "flu" ≡ look_of "Flu"
unfolding all label_byte folded same_label passes some passes_own policy_word is_by stands_for subjects_where reaches decide rights_by chains records_from padded record_of stored_from at_parent nearest_first shown_after keep each_from join changed
look_in_any_case = refl

-- `ill` and `cold` are no policy words
pub behind_ill_cold : BehindBoth "ill" "cold"
unfolding all label_byte folded same_label passes some passes_own policy_word is_by stands_for subjects_where reaches decide rights_by chains records_from padded record_of stored_from at_parent nearest_first shown_after keep each_from join changed
behind_ill_cold = ((λ a b. inl refl), ((λ a b. inr (refl, refl)), tt))

-- `flu` is one, and equal to `Flu`
pub behind_in_any_case : BehindBoth "flu" "Flu"
unfolding all label_byte folded same_label passes some passes_own policy_word is_by stands_for subjects_where reaches decide rights_by chains records_from padded record_of stored_from at_parent nearest_first shown_after keep each_from join changed
behind_in_any_case = ((λ a b. inl refl), ((λ a b. inl refl), tt))

differs : (a b : List ℕ) → same_label a b ≡ false → policy_word the_policy b ≡ true → NoWordDiffers the_policy a b → ⊥
differs a b e f (inl q) = true≢false (sym q ∙ e)
differs a b e f (inr q) = true≢false (sym f ∙ q.1)

-- `flu` is one by a rule's path, `SHA` by `$`
pub behind_ill_flu : BehindBoth "ill" "flu" → ⊥
unfolding all label_byte folded same_label passes some passes_own policy_word is_by stands_for subjects_where reaches decide rights_by chains records_from padded record_of stored_from at_parent nearest_first shown_after keep each_from join changed
behind_ill_flu b = differs (bytes "ill") (bytes "flu") refl refl (b.1.0 refl refl)

pub behind_ill_sha : BehindBoth "ill" "SHA" → ⊥
unfolding all label_byte folded same_label passes some passes_own policy_word is_by stands_for subjects_where reaches decide rights_by chains records_from padded record_of stored_from at_parent nearest_first shown_after keep each_from join changed
behind_ill_sha b = differs (bytes "ill") (bytes "SHA") refl refl (b.1.0 refl refl)

pub tables_differ : the_table "ill" ≡ the_table "cold" → ⊥
unfolding all label_byte folded same_label passes some passes_own policy_word is_by stands_for subjects_where reaches decide rights_by chains records_from padded record_of stored_from at_parent nearest_first shown_after keep each_from join changed
tables_differ e = let z : ◌≡◌ {A = ℕ} 3 4 = ap (λ (t : List ℕ). get_or t 37 0) e in omega (arith, z)

pub letters_differ : the_table "flu" ≡ the_table "Flu" → ⊥
unfolding all label_byte folded same_label passes some passes_own policy_word is_by stands_for subjects_where reaches decide rights_by chains records_from padded record_of stored_from at_parent nearest_first shown_after keep each_from join changed
letters_differ e = let z : ◌≡◌ {A = ℕ} 102 70 = ap (λ (t : List ℕ). get_or t 38 0) e in omega (arith, z)
