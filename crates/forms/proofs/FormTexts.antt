-- Each form as document 01 ("Lines") and the cards write it, with its stage: what the table `layout` comes to, a law a form. Assumes nothing.
use Prim.Native.Nat.{ℕ}
use mathlib.Core.Path.{◌≡◌, refl}
use mathlib.Core.Bool.{Bool, cond}
use mathlib.Core.List.{List, ◌++◌}
use Rattle.rights.specs.Bytes.{bytes, digit_byte, run}
use Rattle.rights.specs.Labels.{label_byte}
use Rattle.rights.specs.PathReader.{number_of}
use Rattle.rights.specs.Policy.{Right}
use Rattle.rights.specs.Tree.{Tree, write_tree}
use Rattle.forms.specs.declared.layout.Word.TheVariants as word
use Rattle.forms.specs.Word.{among, same_text}
use Rattle.forms.specs.Part.{run_end, day_end, day_at}
use Rattle.forms.specs.Layout.{stage_a, stage_b, stage_c, stage_d, stage_e, word_at}
use Rattle.forms.specs.Form.{no_form, parts_of, ends_in, read_form}
use Rattle.forms.specs.Command.{Command, command, stage_for, write_right, write_value, written}

-- the command belongs to the stage g and is written so
abbrev pub Stands : ℕ → Command → List ℕ → Type 0
Stands g c text = (stage_for c ≡ g) × (written c ≡ text)

pub subject_text : (n : List ℕ) → Stands stage_a (command word.Subject (n, tt)) (bytes "(subject " ++ (n ++ bytes ")"))
unfolding written write_value
subject_text n = (refl, refl)

pub isa_text : (n r : List ℕ) → Stands stage_a (command word.Isa (n, (r, tt))) (bytes "(isa " ++ (n ++ (bytes " " ++ (r ++ bytes ")"))))
unfolding written write_value
isa_text n r = (refl, refl)

pub rule_text : (a : Bool) (r : Right) (p n : List ℕ) → Stands stage_b (command word.Rule (a, (r, (p, (n, tt))))) (bytes "(rule " ++ (cond a (bytes "accept") (bytes "deny") ++ (bytes " " ++ (write_right r ++ (bytes " " ++ (p ++ (bytes " " ++ (n ++ bytes ")"))))))))
unfolding written write_value
rule_text a r p n = (refl, refl)

pub root_text : (l : List ℕ) → Stands stage_c (command word.Root (l, tt)) (bytes "(root " ++ (l ++ bytes ")"))
unfolding written write_value
root_text l = (refl, refl)

pub child_text : (u : Tree) → Stands stage_d (command word.Child (u, tt)) (bytes "(child " ++ (write_tree u ++ bytes ")"))
unfolding written write_value
child_text u = (refl, refl)

pub user_text : (n : List ℕ) → Stands stage_e (command word.User (n, tt)) (bytes "(user " ++ (n ++ bytes ")"))
unfolding written write_value
user_text n = (refl, refl)

pub view_text_lem : Stands stage_e (command word.View tt) (bytes "(view)")
unfolding written write_value
view_text_lem = (refl, refl)

pub query_text_lem : (p : List ℕ) → Stands stage_e (command word.Query (p, tt)) (bytes "(query " ++ (p ++ bytes ")"))
unfolding written write_value
query_text_lem p = (refl, refl)

pub find_text_lem : (p : List ℕ) → Stands stage_e (command word.Find (p, tt)) (bytes "(find " ++ (p ++ bytes ")"))
unfolding written write_value
find_text_lem p = (refl, refl)

pub rename_text : (p l : List ℕ) → Stands stage_e (command word.Rename (p, (l, tt))) (bytes "(rename " ++ (p ++ (bytes " " ++ (l ++ bytes ")"))))
unfolding written write_value
rename_text p l = (refl, refl)

pub update_text : (p l : List ℕ) → Stands stage_e (command word.Update (p, (l, tt))) (bytes "(update " ++ (p ++ (bytes " " ++ (l ++ bytes ")"))))
unfolding written write_value
update_text p l = (refl, refl)

pub append_text : (p : List ℕ) (u : Tree) → Stands stage_e (command word.Append (p, (u, tt))) (bytes "(append " ++ (p ++ (bytes " " ++ (write_tree u ++ bytes ")"))))
unfolding written write_value
append_text p u = (refl, refl)

pub before_text : (p : List ℕ) (u : Tree) → Stands stage_e (command word.Before (p, (u, tt))) (bytes "(before " ++ (p ++ (bytes " " ++ (write_tree u ++ bytes ")"))))
unfolding written write_value
before_text p u = (refl, refl)

pub after_text : (p : List ℕ) (u : Tree) → Stands stage_e (command word.After (p, (u, tt))) (bytes "(after " ++ (p ++ (bytes " " ++ (write_tree u ++ bytes ")"))))
unfolding written write_value
after_text p u = (refl, refl)

pub remove_text : (p : List ℕ) → Stands stage_e (command word.Remove (p, tt)) (bytes "(remove " ++ (p ++ bytes ")"))
unfolding written write_value
remove_text p = (refl, refl)

pub sheet_text_lem : (l : List ℕ) → Stands stage_e (command word.Sheet (l, tt)) (bytes "(sheet " ++ (l ++ bytes ")"))
unfolding written write_value
sheet_text_lem l = (refl, refl)

pub day_text : (d : List ℕ) → Stands stage_e (command word.Day (d, tt)) (bytes "(day " ++ (d ++ bytes ")"))
unfolding written write_value
day_text d = (refl, refl)

pub window_text : (p f t : List ℕ) → Stands stage_e (command word.Window (p, (f, (t, tt)))) (bytes "(window " ++ (p ++ (bytes " " ++ (f ++ (bytes " " ++ (t ++ bytes ")"))))))
unfolding written write_value
window_text p f t = (refl, refl)

-- "A day is typed as 1 to 3 digits": zeros may lead, a fourth digit or none is no form
pub day_digits_lem : (read_form (bytes "(day 007)") ≡ record { word = word.Day; parts = (7, tt) }) × (read_form (bytes "(day 0007)") ≡ no_form) × (read_form (bytes "(day )") ≡ no_form)
unfolding read_form ends_in word_at among same_text run_end run label_byte parts_of day_end day_at digit_byte number_of
day_digits_lem = (refl, refl, refl)
