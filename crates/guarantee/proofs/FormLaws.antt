-- Each form of a line: where its checks pass its effect is sound; on two stores that are alike to the user its work is alike; its own checks have the numbers 2 to
-- 11 and 15, and its answer has room. All go by form, in one law with one clause a form; all else that is said of a line goes by its effect. Assumes nothing.
use Prim.Native.Nat.{ℕ, ◌+◌, ◌≤◌}
use mathlib.Core.Path.{◌≡◌, refl, ap, ap₂, subst}
use mathlib.Core.Bool.{Bool, true, false, ◌||◌, false≢true}
use native.Mathlib.Omega.{arith}
use lib.ListN.{length}
use mathlib.Core.List.{List}
use mathlib.Core.Logic.{inl, inr}
use Rattle.rights.specs.Marks.{keep}
use Rattle.rights.specs.Labels.{same_label, restricted}
use Rattle.rights.specs.Policy.{Policy}
use Rattle.views.specs.Change.{chunks, lower, deepest}
use Rattle.views.specs.declared.done.Change.{Change}
use Rattle.views.specs.declared.done.Change.TheVariants as change
use Rattle.views.specs.declared.insert.Place.{Place}
use Rattle.views.specs.declared.insert.Place.TheVariants as place
use Rattle.answers.specs.Answer.{view_text}
use Rattle.answers.specs.Sheet.{sheet_text}
use Rattle.forms.specs.declared.layout.Word.{Word}
use Rattle.forms.specs.declared.layout.Word.TheVariants as word
use Rattle.forms.specs.Layout.{stage_of, shape_of}
use Rattle.forms.specs.Form.{AllHeld, ReadForm, no_form, read_form}
use Rattle.forms.specs.Tree.{records_of}
use Rattle.lines.specs.PolicyEdit.{subject_named, is_unknown, number_in}
use Rattle.lines.specs.State.{stage_e, stage, day_in, policy_in, store_ok}
use Rattle.lines.specs.Effect.{login, Work}
use Rattle.lines.specs.Refusal.{check, Passed}
use Rattle.lines.specs.UserView.{no_user, done_in}
use Rattle.lines.specs.Work.{change_at, answer_to, on_view, work_user, work_view, work_ask, work_rename, work_insert, work_remove, work_sheet, work_day, work_window}
use Rattle.lines.specs.declared.queries.Ask.{Ask}
use Rattle.lines.specs.declared.queries.Ask.TheVariants as ask
use Rattle.lines.specs.Clause.{work_of}
use Rattle.store.specs.Line.{in_stage}
use Rattle.store.proofs.FormParts.{AllFit, form_fits}
use Rattle.guarantee.proofs.AnswerMost.{Room, ok_most, count_most, shows_most, ask_most, sheet_most, own}
use Rattle.guarantee.proofs.SamePolicy.{same-named, same_word}
use Rattle.guarantee.proofs.Sound.{EffectSound}
use Rattle.guarantee.proofs.FormSound.{rename_frees, update_frees, subject_sound, isa_sound, rule_sound, root_sound, child_sound, user_sound, rename_sound, insert_sound, remove_sound, day_sound, window_sound}
use Rattle.guarantee.proofs.LineAlike.{Tied, CheckAlike, ChecksAlike, EffectAlike, readings, logins, datings, insertions, renamings, removals, redatings, WorkAlike, user_both, view_both, marks_both, text_both, deep_both, done_both}

-- The works of the user's forms on two stores that are alike

same : (n : ℕ) (b : Bool) → CheckAlike (check n b) (check n b)
same n b = (refl, inl refl)

module _ (u : ℕ) (s t s' t' : List ℕ) (h : Tied u s t s' t') where
  abbrev Alike : Work → Work → Type 0
  Alike w w' = WorkAlike (policy_in s) u (day_in s) t t' w w'

  has_user : (n : ℕ) → CheckAlike (check n (no_user s)) (check n (no_user s'))
  has_user n = (refl, inl (user_both u s t s' t' h))

  user_alike : (name : List ℕ) → Alike (work_user s name) (work_user s' name)
  unfolding ChecksAlike
  user_alike name =
      let q = same-named (policy_in s) (policy_in s') h.policy name in
      record {
        checks = ((refl, inl (ap is_unknown q)), tt);
        text = refl;
        effect =
            subst (λ f. EffectAlike (policy_in s) u (day_in s) t t' (login (number_in (subject_named (policy_in s) name))) (login (number_in f))) q
            (logins (number_in (subject_named (policy_in s) name)));
      }

  view_alike : Alike (work_view s t) (work_view s' t')
  unfolding ChecksAlike
  view_alike = record { checks = (has_user _, tt); text = ap view_text (view_both u s t s' t' h); effect = readings }

  sheet_alike : (l : List ℕ) → Alike (work_sheet s t l) (work_sheet s' t' l)
  unfolding ChecksAlike
  sheet_alike l = record { checks = (has_user _, tt); text = ap (sheet_text l) (view_both u s t s' t' h); effect = readings }

  on_view_lem : (path : List ℕ) → ChecksAlike (on_view path s) (on_view path s')
  unfolding ChecksAlike
  on_view_lem path = (same _ _, (has_user _, tt))

  ask_alike : (what : Ask) (path : List ℕ) → Alike (work_ask what s t path) (work_ask what s' t' path)
  ask_alike what path = record {
    checks = on_view_lem path;
    text = ap₂ (λ ms ns. answer_to what (keep ms ns)) (marks_both u s t s' t' h path) (view_both u s t s' t' h);
    effect = readings;
  }

  rename_alike : (c : Change) (path l : List ℕ) → Alike (work_rename c s t path l) (work_rename c s' t' path l)
  unfolding ChecksAlike
  rename_alike c path l = record {
    checks = (same _ _, (has_user _, ((refl, inl (ap (λ word. same_label l restricted || word l) (same_word (policy_in s) (policy_in s') h.policy))), tt)));
    text = text_both u s t s' t' h c path;
    effect = renamings l (done_in c s t path) (done_in c s' t' path) (done_both u s t s' t' h c path);
  }

  insert_alike : (at : Place) (path : List ℕ) (m : ℕ) (tree : List ℕ) → Alike (work_insert at s t path m tree) (work_insert at s' t' path m tree)
  unfolding ChecksAlike
  insert_alike at path m tree = record {
    checks =
        (same _ _, (has_user _, (same _ _, ((refl, inl (deep_both u s t s' t' h (lower at + deepest (chunks m tree)) (change_at at) path)), ((refl, inr refl), tt)))));
    text = text_both u s t s' t' h (change_at at) path;
    effect =
        insertions at m tree (stage s) (stage s') (done_in (change_at at) s t path) (done_in (change_at at) s' t' path) (done_both u s t s' t' h (change_at at) path);
  }

  remove_alike : (path : List ℕ) → Alike (work_remove s t path) (work_remove s' t' path)
  remove_alike path = record {
    checks = on_view_lem path;
    text = text_both u s t s' t' h change.Remove path;
    effect = removals (done_in change.Remove s t path) (done_in change.Remove s' t' path) (done_both u s t s' t' h change.Remove path);
  }

  day_alike : (d : ℕ) → Alike (work_day d) (work_day d)
  unfolding ChecksAlike
  day_alike d = record { checks = (same _ _, tt); text = refl; effect = datings d }

  window_alike : (path : List ℕ) (f l : ℕ) → Alike (work_window s t path f l) (work_window s' t' path f l)
  unfolding ChecksAlike
  window_alike path f l = record {
    checks = (same _ _, (has_user _, (same _ _, tt)));
    text = text_both u s t s' t' h change.Window path;
    effect = redatings f l (done_in change.Window s t path) (done_in change.Window s' t' path) (done_both u s t s' t' h change.Window path);
  }

  none_alike : Alike (work_of no_form s t) (work_of no_form s' t')
  unfolding ChecksAlike
  none_alike = record { checks = (same _ _, tt); text = refl; effect = readings }

-- The law of a form

pub record FormLaw (f : ReadForm) : Type 0 where
  pub sound : (s t : List ℕ) → store_ok s t ≡ true → in_stage (stage_of f.word) (stage s) ≡ true → Passed (work_of f s t).checks → EffectSound f s t (work_of f s t).effect
  pub alike : (u : ℕ) (s t s' t' : List ℕ) → Tied u s t s' t' → in_stage (stage_of f.word) stage_e ≡ true
      → WorkAlike (policy_in s) u (day_in s) t t' (work_of f s t) (work_of f s' t')
  pub own : (s t : List ℕ) → own (work_of f s t).checks ≡ true
  pub most : (s t : List ℕ) → store_ok s t ≡ true → (n : ℕ) → Room t n → length (work_of f s t).text ≤ n

module _ (line : List ℕ) where
  -- the lines before stage E are out of a user's reach
  early : {P : Policy} {u d : ℕ} {t t' : List ℕ} {w w' : Work} → false ≡ true → WorkAlike P u d t t' w w'
  early i = absurd (false≢true i)

  form_law : (w : Word) (ps : AllHeld (shape_of w)) → AllFit line (shape_of w) ps → FormLaw (record { word = w; parts = ps })
  form_law word.Subject (n, tt) w = record {
    sound = λ s t ok i p. subject_sound s t ok n i w.0 p;
    alike = λ u s t s' t' h i. early i;
    own = λ s t. refl;
    most = λ s t ok. ok_most t;
  }
  form_law word.Isa (n, (r, tt)) w = record {
    sound = λ s t ok i p. isa_sound s t ok n r i p;
    alike = λ u s t s' t' h i. early i;
    own = λ s t. refl;
    most = λ s t ok. ok_most t;
  }
  form_law word.Rule (a, (b, (p, (n, tt)))) w = record {
    sound = λ s t ok i q. rule_sound s t ok a b p n i w.1.0.0 w.1.0.1 q;
    alike = λ u s t s' t' h i. early i;
    own = λ s t. refl;
    most = λ s t ok. ok_most t;
  }
  form_law word.Root (l, tt) w = record {
    sound = λ s t ok i p. root_sound s t ok l i w.0 p;
    alike = λ u s t s' t' h i. early i;
    own = λ s t. refl;
    most = λ s t ok. ok_most t;
  }
  form_law word.Child (ns, tt) w = record {
    sound = λ s t ok i p. child_sound s t ok line ns i w.0 p;
    alike = λ u s t s' t' h i. early i;
    own = λ s t. refl;
    most = λ s t ok. ok_most t;
  }
  form_law word.User (n, tt) w = record {
    sound = λ s t ok i p. user_sound s t ok n i p;
    alike = λ u s t s' t' h i. user_alike u s t s' t' h n;
    own = λ s t. refl;
    most = λ s t ok. ok_most t;
  }
  form_law word.View tt w = record {
    sound = λ s t ok i p. tt;
    alike = λ u s t s' t' h i. view_alike u s t s' t' h;
    own = λ s t. refl;
    most = λ s t ok. shows_most s t ok;
  }
  form_law word.Query (p, tt) w = record {
    sound = λ s t ok i q. tt;
    alike = λ u s t s' t' h i. ask_alike u s t s' t' h ask.Query p;
    own = λ s t. refl;
    most = λ s t ok. ask_most s t ok ask.Query p;
  }
  form_law word.Find (p, tt) w = record {
    sound = λ s t ok i q. tt;
    alike = λ u s t s' t' h i. ask_alike u s t s' t' h ask.Find p;
    own = λ s t. refl;
    most = λ s t ok. ask_most s t ok ask.Find p;
  }
  form_law word.Rename (p, (l, tt)) w = record {
    sound = λ s t ok i q. rename_sound s t ok change.Rename p l i rename_frees w.1.0 q;
    alike = λ u s t s' t' h i. rename_alike u s t s' t' h change.Rename p l;
    own = λ s t. refl;
    most = λ s t ok. count_most s t ok change.Rename p;
  }
  form_law word.Update (p, (l, tt)) w = record {
    sound = λ s t ok i q. rename_sound s t ok change.Update p l i update_frees w.1.0 q;
    alike = λ u s t s' t' h i. rename_alike u s t s' t' h change.Update p l;
    own = λ s t. refl;
    most = λ s t ok. count_most s t ok change.Update p;
  }
  form_law word.Append (p, (ns, tt)) w = record {
    sound = λ s t ok i q. insert_sound s t ok line place.Append p ns i w.1.0 q;
    alike = λ u s t s' t' h i. insert_alike u s t s' t' h place.Append p (length ns) (records_of ns);
    own = λ s t. refl;
    most = λ s t ok. count_most s t ok change.Append p;
  }
  form_law word.Before (p, (ns, tt)) w = record {
    sound = λ s t ok i q. insert_sound s t ok line place.Before p ns i w.1.0 q;
    alike = λ u s t s' t' h i. insert_alike u s t s' t' h place.Before p (length ns) (records_of ns);
    own = λ s t. refl;
    most = λ s t ok. count_most s t ok change.Before p;
  }
  form_law word.After (p, (ns, tt)) w = record {
    sound = λ s t ok i q. insert_sound s t ok line place.After p ns i w.1.0 q;
    alike = λ u s t s' t' h i. insert_alike u s t s' t' h place.After p (length ns) (records_of ns);
    own = λ s t. refl;
    most = λ s t ok. count_most s t ok change.After p;
  }
  form_law word.Remove (p, tt) w = record {
    sound = λ s t ok i q. remove_sound s t ok p i;
    alike = λ u s t s' t' h i. remove_alike u s t s' t' h p;
    own = λ s t. refl;
    most = λ s t ok. count_most s t ok change.Remove p;
  }
  form_law word.Sheet (l, tt) w = record {
    sound = λ s t ok i p. tt;
    alike = λ u s t s' t' h i. sheet_alike u s t s' t' h l;
    own = λ s t. refl;
    most = λ s t ok. sheet_most s t l;
  }
  form_law word.Day (d, tt) w = record {
    sound = λ s t ok i p. day_sound s t ok d i p;
    alike = λ u s t s' t' h i. day_alike u s t s' t' h d;
    own = λ s t. refl;
    most = λ s t ok. ok_most t;
  }
  form_law word.Window (p, (f, (l, tt))) w = record {
    sound = λ s t ok i q. window_sound s t ok p f l i q;
    alike = λ u s t s' t' h i. window_alike u s t s' t' h p f l;
    own = λ s t. refl;
    most = λ s t ok. count_most s t ok change.Window p;
  }
  form_law word.Other tt w = record {
    sound = λ s t ok i p. tt;
    alike = λ u s t s' t' h i. none_alike u s t s' t' h;
    own = λ s t. refl;
    most = λ s t ok n h. omega (arith, h.0);
  }

  -- the law of the form that was read
  pub read_law : FormLaw (read_form line)
  read_law = form_law (read_form line).word (read_form line).parts (form_fits line)
