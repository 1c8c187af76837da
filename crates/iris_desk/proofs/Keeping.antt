-- A name stays out at one desk at most where one desk changes, and what all desks keep is kept.
use Rattle.std.proofs.Common.{◌≡◌, ◌⊎◌, inl, inr, ℕ, zero, suc, ◌<◌, ◌≤◌, ◌==◌, List, length, get_or, set, map, replicate, Bool, true, false, cond, Option, Some, None, refl, sym, ◌∙◌, ap, subst, arith}
use Rattle.std.specs.Prelude.{slice_get}
use Rattle.std.specs.Option.{option_map, option_and_then, option_map_or, OnSome, IfNone}
use Rattle.std.specs.List.{IsDistinct}
use Rattle.std.proofs.lemmas.Bool.{eqb-true, cases_lt}
use Rattle.std.proofs.lemmas.List.{length-map, length-set, length-replicate}
use Rattle.std.proofs.lemmas.List.Elements.{All-set, All-map, All-weaker, All-replicate, All-get_or}
use Rattle.std.proofs.lemmas.Option.{slice_get-map, slice_get-get_or, slice_get_past, slice_get_read, slice_get_within, get_or_from_slice_get}
use Rattle.iris_name.specs.Names.{same_name}
use Rattle.iris_name.specs.NameLaws.{same_name-true}
use Rattle.iris_name.specs.declared.name.Name.{Name}
use Rattle.iris_name.specs.declared.request.Request.{Request}
use Rattle.iris_desk.specs.declared.out.Out.{Out}
use Rattle.iris_desk.specs.Outs.{touched_where, out_in}
use Rattle.iris_desk.specs.AtDesk.{DeskState, empty_desk, keeps_name, asked_desk, entered_desk, begun_desk, ended_desk, touched_desk, IsDeskSound}
use Rattle.iris_desk.specs.AtDesks.{DesksState, desk_at, out_for, out_of, ChangesDesk, AreDesksSound}
use Rattle.iris_desk.proofs.OutLists.{began_elsewhere, ended_at_name, ended_elsewhere, touched_lookup}
use Rattle.iris_desk.proofs.OneDesk.{empty_desk_sound, touched_desk_sound}
use Rattle.iris_desk.proofs.OutOf.{AtOneDesk, none_for}
use Rattle.iris_desk.proofs.Seats.{set_changes}

-- what a look at a desk gives, where one desk changes
module _ {A : Type 0} (old new : DesksState) (who : ℕ) (f : DeskState → DeskState) (c : ChangesDesk old new who f) (look : Option DeskState → A) where
  pub changed_look : (w : ℕ) → look (desk_at new w) ≡ cond (w == who) (look (option_map f (desk_at old w))) (look (desk_at old w))
  changed_look w = ap look (c w) ∙ by (w == who) where
    by : (b : Bool) → look (cond b (option_map f (desk_at old w)) (desk_at old w)) ≡ cond b (look (option_map f (desk_at old w))) (look (desk_at old w))
    by true = refl
    by false = refl

  pub unchanged_look : ((z : Option DeskState) → look (option_map f z) ≡ look z) → (w : ℕ) → look (desk_at new w) ≡ look (desk_at old w)
  unchanged_look same w = changed_look w ∙ by (w == who) where
    by : (b : Bool) → cond b (look (option_map f (desk_at old w))) (look (desk_at old w)) ≡ look (desk_at old w)
    by true = same (desk_at old w)
    by false = refl

abbrev pub out_look : Name → Option DeskState → Option Out
out_look n z = option_and_then (λ d. out_in d.out n) z

abbrev pub kept_look : Name → Option DeskState → Bool
kept_look q z = option_map_or (λ d. keeps_name d q) z false

abbrev pub asked_look : Option DeskState → Option Request
asked_look z = option_and_then (λ d. d.request) z

-- a name that is out at the changed desk was out at it, or nowhere
abbrev pub WasOut : DesksState → DeskState → Name → Type 0
WasOut old x n = ((o : Out) × (out_in x.out n ≡ Some o)) ⊎ ((w : ℕ) → out_for old w n ≡ None)

module _ (old new : DesksState) (who : ℕ) (f : DeskState → DeskState) (c : ChangesDesk old new who f) (one : AtOneDesk old)
    (was : (n : Name) (x : DeskState) (o : Out) → out_in (f x).out n ≡ Some o → WasOut old x n) where
  -- out at the changed desk and at another
  at_other : (n : Name) (w v : ℕ) (o p : Out) → out_look n (option_map f (desk_at old w)) ≡ Some o → out_for old v n ≡ Some p → w ≡ v
  at_other n w v o p a b = by (desk_at old w) refl a where
    by : (z : Option DeskState) → desk_at old w ≡ z → out_look n (option_map f z) ≡ Some o → w ≡ v
    by None s a = absurd (cc)
    by (Some x) s a = elim (was n x o a) [
      | inl h ↦ one n w v h.0 p (ap (out_look n) s ∙ h.1) b
      | inr none ↦ absurd (let g = none v in cc)
    ]

  pub changed_apart : AtOneDesk new
  changed_apart n w v o p a b = by (w == who) (v == who) refl refl (sym (changed_look old new who f c (out_look n) w) ∙ a) (sym (changed_look old new who f c (out_look n) v) ∙ b) where
    by : (s t : Bool) → (w == who) ≡ s → (v == who) ≡ t → cond s (out_look n (option_map f (desk_at old w))) (out_for old w n) ≡ Some o
        → cond t (out_look n (option_map f (desk_at old v))) (out_for old v n) ≡ Some p → w ≡ v
    by true true s t a b = eqb-true w who s ∙ sym (eqb-true v who t)
    by true false s t a b = at_other n w v o p a b
    by false true s t a b = sym (at_other n v w p o b a)
    by false false s t a b = one n w v o p a b

-- ---- what each call makes of a desk

pub asked_was : (old : DesksState) (r : Request) (n : Name) (x : DeskState) (o : Out) → out_in (asked_desk r x).out n ≡ Some o → WasOut old x n
asked_was old r n x o e = inl (o, e)

pub entered_was : (old : DesksState) (n : Name) (x : DeskState) (o : Out) → out_in (entered_desk x).out n ≡ Some o → WasOut old x n
entered_was old n x o e = inl (o, e)

pub begun_was : (old : DesksState) (o : Out) → AtOneDesk old → out_of old o.name ≡ None → (n : Name) (x : DeskState) (p : Out) → out_in (begun_desk o x).out n ≡ Some p → WasOut old x n
begun_was old o one free n x p e = by (same_name o.name n) refl where
  by : (b : Bool) → same_name o.name n ≡ b → WasOut old x n
  by true s = inr (none_for old n one (subst (λ m. out_of old m ≡ None) (same_name-true o.name n s) free))
  by false s = inl (p, sym (began_elsewhere o n x.out s) ∙ e)

pub ended_was : (old : DesksState) (keep : Bool) (m n : Name) (x : DeskState) (p : Out) → out_in (ended_desk keep m x).out n ≡ Some p → WasOut old x n
ended_was old keep m n x p e = by (same_name m n) refl where
  by : (b : Bool) → same_name m n ≡ b → WasOut old x n
  by true s = absurd (let g = subst (λ k. out_in (ended_desk keep m x).out k ≡ None) (same_name-true m n s) (ended_at_name m x.out) in cc)
  by false s = inl (p, sym (ended_elsewhere m n x.out s) ∙ e)

-- ---- what all desks keep

-- a caller's desk is the one at its place
pub seat : (d : DesksState) (who : ℕ) (x : DeskState) → AreDesksSound d → who ≤ 16 → x ≡ get_or d.desks who x → desk_at d who ≡ Some x
seat d who x sound le is = slice_get_read d.desks 17 who x (sym sound.seats) (omega (arith, le)) is

-- a caller's desk is written anew
module _ (d old : DesksState) (who : ℕ) (x y : DeskState) (f : DeskState → DeskState) (sound : AreDesksSound d) (le : who ≤ 16) (at : x ≡ get_or d.desks who x) (is : y ≡ f x) where
  abbrev written : DesksState
  written = record d { desks = set d.desks who y }

  changes : ChangesDesk d written who f
  changes = set_changes d.desks who x y f (let k = sound.seats in omega (arith, k, le)) (seat d who x sound le at) is

  pub written_changes : d ≡ old → ChangesDesk old written who f
  written_changes same = subst (λ (v : DesksState). ChangesDesk v written who f) same changes

  pub written_sound : IsDeskSound y → ((n : Name) (x : DeskState) (o : Out) → out_in (f x).out n ≡ Some o → WasOut d x n) → AreDesksSound written
  written_sound s was = record {
    seats = length-set d.desks who y ∙ sound.seats;
    each = All-set IsDeskSound d.desks who y s sound.each;
    apart = changed_apart d written who f changes sound.apart was;
    once = sound.once;
  }

-- what is out for a name ends at a caller's desk, or nothing was out for it there
module _ (d old : DesksState) (who : ℕ) (x y : DeskState) (keep : Bool) (n : Name) (sound : AreDesksSound d) (le : who ≤ 16) (at : x ≡ get_or d.desks who x) where
  pub ended_sound_at : (r : Option Out) → OnSome r (y ≡ ended_desk keep n x) → IfNone r (y ≡ x) → IsDeskSound y → AreDesksSound (record d { desks = set d.desks who y })
  ended_sound_at None ended none s = written_sound d d who x y (λ z. z) sound le at none s (λ m z o e. inl (o, e))
  ended_sound_at (Some p) ended none s = written_sound d d who x y (ended_desk keep n) sound le at ended s (ended_was d keep n)

  pub ended_changes : (r : Option Out) → d ≡ old → OnSome r (y ≡ ended_desk keep n x) → OnSome r (ChangesDesk old (record d { desks = set d.desks who y }) who (ended_desk keep n))
  ended_changes None same ended = tt
  ended_changes (Some p) same ended = written_changes d old who x y (ended_desk keep n) sound le at ended same

-- what is out for a name where all desks are touched
pub touched_for : (n : Name) (old new : DesksState) → ((w : ℕ) → desk_at new w ≡ option_map (touched_desk n) (desk_at old w)) → (w : ℕ) (q : Name) → out_for new w q ≡ option_map (touched_where n) (out_for old w q)
touched_for n old new c w q = ap (out_look q) (c w) ∙ by (desk_at old w) where
  by : (z : Option DeskState) → out_look q (option_map (touched_desk n) z) ≡ option_map (touched_where n) (out_look q z)
  by None = refl
  by (Some d) = touched_lookup n q d.out

pub touched_apart : (n : Name) (old new : DesksState) → ((w : ℕ) → desk_at new w ≡ option_map (touched_desk n) (desk_at old w)) → AtOneDesk old → AtOneDesk new
touched_apart n old new c one q w v o p a b =
    let g = back (out_for old w q) o (sym (touched_for n old new c w q) ∙ a) in
    let h = back (out_for old v q) p (sym (touched_for n old new c v q) ∙ b) in
    one q w v g.0 h.0 g.1 h.1 where
      back : (z : Option Out) (o : Out) → option_map (touched_where n) z ≡ Some o → (p : Out) × (z ≡ Some p)
      back None o e = absurd (cc)
      back (Some p) o e = (p, refl)

pub touched_sound : (n : Name) (d : DesksState) → AreDesksSound d → AreDesksSound (record d { desks = map (touched_desk n) d.desks })
touched_sound n d s = record {
  seats = length-map d.desks (touched_desk n) ∙ s.seats;
  each = All-map IsDeskSound (touched_desk n) d.desks (All-weaker IsDeskSound (λ x. IsDeskSound (touched_desk n x)) (touched_desk_sound n) d.desks s.each);
  apart = touched_apart n d (record d { desks = map (touched_desk n) d.desks }) (λ w. slice_get-map (touched_desk n) d.desks w) s.apart;
  once = s.once;
}

-- nothing is out at empty desks
pub none_at_empty : (k w : ℕ) (n : Name) → out_look n (slice_get (replicate k empty_desk) w) ≡ None
none_at_empty zero w n = refl
none_at_empty (suc k) zero n = refl
none_at_empty (suc k) (suc w) n = none_at_empty k w n

-- nothing is out at a desk that isn't there
pub none_below : (d : DesksState) (who : ℕ) (n : Name) → length d.desks ≤ who → ((k : ℕ) → k < who → out_for d k n ≡ None) → (k : ℕ) → out_for d k n ≡ None
none_below d who n le below k = elim (cases_lt k who) [
  | inl lt ↦ below k lt
  | inr ge ↦ ap (out_look n) (slice_get_past d.desks k (omega (arith, le, ge)))
]

-- the doomed names may be any, each once, and the room for more
pub doomed_sound : (d : DesksState) (names : List Name) (room : ℕ) → AreDesksSound d → IsDistinct same_name names → AreDesksSound (record { desks = d.desks; doomed = names; room = room })
doomed_sound d names room s once = record { seats = s.seats; each = s.each; apart = s.apart; once = once }

-- a caller's desk is there
pub desk_there : (d : DesksState) (who : ℕ) → AreDesksSound d → who ≤ 16 → (x : DeskState) × (desk_at d who ≡ Some x)
desk_there d who s le = (_, slice_get-get_or d.desks who empty_desk (let k = s.seats in omega (arith, k, le)))

-- each desk is empty
pub empty_sound : (k : ℕ) (names : List Name) → k ≡ 17 → IsDistinct same_name names → AreDesksSound (record { desks = replicate k empty_desk; doomed = names; room = 0 })
empty_sound k names is once = record {
  seats = length-replicate k empty_desk ∙ is;
  each = All-replicate IsDeskSound k empty_desk empty_desk_sound;
  apart = λ n w v o p a b. absurd (let g = none_at_empty k w n in cc);
  once = once;
}

-- what a desk keeps
pub desk_sound : (d : DesksState) (w : ℕ) (x : DeskState) → AreDesksSound d → desk_at d w ≡ Some x → IsDeskSound x
desk_sound d w x s at = subst IsDeskSound (get_or_from_slice_get d.desks w x x at) (All-get_or IsDeskSound d.desks w x (slice_get_within d.desks w x at) s.each)
