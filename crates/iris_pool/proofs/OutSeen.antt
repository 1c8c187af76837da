-- What is out for a name, as the invariant sees it.
use Rattle.std.proofs.Common.{◌≡◌, ◌≢◌, ℕ, List, [], Option, Some, None, refl, sym, ◌∙◌, ap}
use Rattle.std.specs.Prelude.{IsSomeAnd}
use Rattle.iris_name.specs.declared.name.Name.{Name}
use Rattle.iris_name.specs.declared.request.Request.{Request}
use Rattle.iris_desk.specs.AtDesk.{DeskState}
use Rattle.iris_desk.specs.AtDesks.{DesksState, asked_by, desk_at, out_of}
use Rattle.iris_desk.specs.declared.out.Out.{Out}
use Rattle.iris_desk.proofs.Keeping.{out_look}
use Rattle.iris_desk.proofs.OutOf.{found_for}
use Rattle.iris_invariant.specs.Agrees as seen
use Rattle.iris_pool.specs.Changes.{IsIdle}
use Rattle.iris_pool.specs.View.{doing_by, out_by, out_seen}

-- something out at a desk, for a request
abbrev pub asked_for : List ℕ → Option Request → ℕ × Out → seen.Out
asked_for key r p = record { who = p.0; since = p.1.since; request = r; doing = doing_by key p.1.name p.1.doing p.1.expect p.1.record; crowded = p.1.crowded; touched = p.1.touched }

-- the same is seen where the same is out, for a request that its caller goes on asking
pub seen_where : (key : List ℕ) (d e : DesksState) (z : Option (ℕ × Out)) → ((w : ℕ) (o : Out) → z ≡ Some (w, o) → asked_by e w ≡ asked_by d w) → out_by key e z ≡ out_by key d z
seen_where key d e None f = refl
seen_where key d e (Some p) f = ap (λ r. Some (asked_for key r p)) (f p.0 p.1 refl)

pub seen_same : (key : List ℕ) (d e : DesksState) (n : Name) → out_of e n ≡ out_of d n → ((w : ℕ) → asked_by e w ≡ asked_by d w) → out_seen key e n ≡ out_seen key d n
seen_same key d e n same asked = ap (out_by key e) same ∙ seen_where key d e (out_of d n) (λ w o at. asked w)

-- so where a caller for whom nothing is out asks something else
pub seen_idle : (key : List ℕ) (d e : DesksState) (n : Name) (who : ℕ) → out_of e n ≡ out_of d n → ((o : Out) → out_of d n ≡ Some (who, o) → ⊥) → ((w : ℕ) → w ≢ who → asked_by e w ≡ asked_by d w) → out_seen key e n ≡ out_seen key d n
seen_idle key d e n who same idle asked = ap (out_by key e) same ∙ seen_where key d e (out_of d n) (λ w o at. asked w (λ is. idle o (at ∙ ap (λ v. Some (v, o)) is)))

-- who is seen is where it is out, and what is seen is touched where that is
pub seen_is : (key : List ℕ) (d : DesksState) (z : Option (ℕ × Out)) (o : seen.Out) → out_by key d z ≡ Some o → (p : ℕ × Out) × (z ≡ Some p) × (o ≡ asked_for key (asked_by d p.0) p)
seen_is key d None o e = absurd (cc)
seen_is key d (Some p) o e = (p, refl, (let h : asked_for key (asked_by d p.0) p ≡ o = cc in sym h))

-- nothing is out at a desk at which nothing is
pub idle_none : (d : DesksState) (who : ℕ) (n : Name) → IsIdle d who → (o : Out) → out_of d n ≡ Some (who, o) → ⊥
idle_none d who n idle o at = by (desk_at d who) idle (found_for d n who o at) where
  by : (z : Option DeskState) → IsSomeAnd z (λ (desk : DeskState). desk.out ≡ []) → out_look n z ≡ Some o → ⊥
  by None i e = absurd i
  by (Some desk) i e = absurd (let h = ap (λ outs. out_look n (Some (record desk { out = outs }))) i in let g : None ≡ Some o = sym h ∙ e in cc)

pub idle_seen : (key : List ℕ) (d : DesksState) (who : ℕ) → IsIdle d who → (n : Name) (o : seen.Out) → out_seen key d n ≡ Some o → o.who ≢ who
idle_seen key d who idle n o at = λ is.
    let s = seen_is key d (out_of d n) o at in
    idle_none d who n idle s.0.1 (s.1 ∙ ap (λ v. Some (v, s.0.1)) (let h : s.0.0 ≡ o.who = sym (ap (λ (z : seen.Out). z.who) s.2) in h ∙ is))

-- what is seen of what is out at a desk
pub seen_at : (key : List ℕ) (d : DesksState) (n : Name) (who : ℕ) (x : Out) (o : seen.Out) → out_of d n ≡ Some (who, x) → out_seen key d n ≡ Some o → o ≡ asked_for key (asked_by d who) (who, x)
seen_at key d n who x o at e = let i : Some (asked_for key (asked_by d who) (who, x)) ≡ Some o = sym (ap (out_by key d) at) ∙ e in let h : asked_for key (asked_by d who) (who, x) ≡ o = cc in sym h

pub seen_out : (key : List ℕ) (d : DesksState) (n : Name) (who : ℕ) (x : Out) → out_of d n ≡ Some (who, x) → out_seen key d n ≡ Some (asked_for key (asked_by d who) (who, x))
seen_out key d n who x at = ap (out_by key d) at

pub seen_none : (key : List ℕ) (d : DesksState) (n : Name) → out_of d n ≡ None → out_seen key d n ≡ None
seen_none key d n at = ap (out_by key d) at
