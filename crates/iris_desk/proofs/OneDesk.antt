-- Where a list has what is out for a name, and what one desk keeps is kept by each call.
use Rattle.std.proofs.Common.{◌≡◌, ℕ, ◌<◌, ◌≤◌, List, [], ◌∷◌, ◌++◌, length, get_or, take, map, filter, Bool, true, false, cond, Some, None, refl, sym, ◌∙◌, ap, subst, arith, if◌then◌else◌}
use Rattle.std.specs.Prelude.{find, position, slice_get, All, nat_lt}
use Rattle.std.proofs.Math.Seq.{take-append_seam}
use Rattle.std.specs.List.{IsDistinct, position_or_len}
use Rattle.std.proofs.lemmas.Grind.{common_steps}
use Rattle.std.proofs.lemmas.List.Elements.{All-nil, All-push, All-filter, All-head, All-tail}
use Rattle.std.proofs.lemmas.List.Folds.{find_at}
use Rattle.std.proofs.lemmas.List.Quantifiers.{position-Some}
use Rattle.std.proofs.lemmas.Option.{slice_get-get_or, slice_get_past}
use Rattle.indexmap.specs.IndexSet.{insert_key}
use Rattle.iris_name.specs.Names.{same_name}
use Rattle.iris_name.specs.declared.name.Name.{Name}
use Rattle.iris_desk.specs.declared.out.Out.{Out}
use Rattle.iris_desk.specs.Outs.{FitsDoing, out_in}
use Rattle.iris_desk.specs.AtDesk.{DeskState, empty_desk, ended_desk, touched_desk, IsDeskSound}
use Rattle.iris_desk.proofs.OutLists.{other, named, once_more, once_less, fits_touched, names_touched}

module _ {X : Type 0} (p : X → Bool) (xs : List X) where
  -- the place of the first that passes
  pub found_at : (i : ℕ) (d : X) → position p xs ≡ Some i → (i < length xs) × (p (get_or xs i d) ≡ true) × (find p xs ≡ Some (get_or xs i d))
  found_at i d e =
      let s = position-Some p xs i d e in
      (s.0, s.1, find_at p xs ∙ (ap (slice_get xs) (by (nat_lt (position_or_len p xs) (length xs)) e) ∙ slice_get-get_or xs i d s.0)) where
        by : (b : Bool) → cond b (Some (position_or_len p xs)) None ≡ Some i → position_or_len p xs ≡ i
        by true e = cc
        by false e = absurd (cc)

  pub found_nowhere : position p xs ≡ None → find p xs ≡ None
  found_nowhere e = find_at p xs ∙ slice_get_past xs (position_or_len p xs) (by (nat_lt (position_or_len p xs) (length xs)) refl e) where
    by : (b : Bool) → nat_lt (position_or_len p xs) (length xs) ≡ b → cond b (Some (position_or_len p xs)) None ≡ None → length xs ≤ position_or_len p xs
    by true t e = absurd (cc)
    by false t e = grind (arith, common_steps)

-- a list that is written anew by one of its length
pub front : {X : Type 0} (xs ys : List X) (n : ℕ) → length xs ≡ n → take n (xs ++ ys) ≡ xs
front xs ys n e = ap (λ m. take m (xs ++ ys)) (sym e) ∙ take-append_seam xs ys

-- what is out fits what is done
pub found_fits : (n : Name) (o : Out) (outs : List Out) → All FitsDoing outs → out_in outs n ≡ Some o → FitsDoing o
found_fits n o [] f e = absurd (cc)
found_fits n o (x ∷ outs) f e = by (same_name n x.name) e (found_fits n o outs (All-tail FitsDoing x outs f)) where
  by : (b : Bool) → cond b (Some x) (out_in outs n) ≡ Some o → (out_in outs n ≡ Some o → FitsDoing o) → FitsDoing o
  by true e g = subst FitsDoing (let z : x ≡ o = cc in z) (All-head FitsDoing x outs f)
  by false e g = g e

-- ---- what one desk keeps

pub empty_desk_sound : IsDeskSound empty_desk
unfolding IsDistinct
empty_desk_sound = record { fits = All-nil FitsDoing; once = tt; kept = tt }

pub begun_sound : (d : DeskState) (o : Out) (outs : List Out) (names : List Name) → IsDeskSound d → out_in d.out o.name ≡ None → FitsDoing o → outs ≡ d.out ++ o ∷ [] → names ≡ d.kept
    → IsDeskSound (record { request = d.request; out = outs; kept = names })
begun_sound d o outs names s free fits is same = record {
  fits = subst (All FitsDoing) (sym is) (All-push FitsDoing d.out o s.fits fits);
  once = subst (λ l. IsDistinct same_name (map named l)) (sym is) (once_more o d.out free s.once);
  kept = subst (IsDistinct same_name) (sym same) s.kept;
}

pub ended_sound : (d : DeskState) (n : Name) (outs : List Out) (names : List Name) → IsDeskSound d → outs ≡ filter (other n) d.out → IsDistinct same_name names
    → IsDeskSound (record { request = d.request; out = outs; kept = names })
ended_sound d n outs names s is kept = record {
  fits = subst (All FitsDoing) (sym is) (All-filter (other n) FitsDoing d.out s.fits);
  once = subst (λ l. IsDistinct same_name (map named l)) (sym is) (once_less (other n) d.out s.once);
  kept = kept;
}

pub ended_view : (d : DeskState) (keep : Bool) (n : Name) (outs : List Out) (names : List Name) → outs ≡ filter (other n) d.out → names ≡ (if keep then insert_key same_name d.kept n else d.kept)
    → ◌≡◌ {A = DeskState} (record { request = d.request; out = outs; kept = names }) (ended_desk keep n d)
ended_view d keep n outs names is kept = (λ i. record { request = d.request; out = is i; kept = kept i })

pub touched_desk_sound : (n : Name) (d : DeskState) → IsDeskSound d → IsDeskSound (touched_desk n d)
touched_desk_sound n d s = record {
  fits = fits_touched n d.out s.fits;
  once = subst (IsDistinct same_name) (sym (names_touched n d.out)) s.once;
  kept = s.kept;
}
