-- What each call does, by look-up of a name or a caller.
use Rattle.std.proofs.Common.{◌≡◌, ℕ, ◌==◌, ◌&&◌, ◌||◌, List, [], ◌∷◌, ◌++◌, Bool, true, false, cond, Option, Some, None, refl, sym, ◌∙◌, ap, subst, eq-eqb}
use Rattle.std.specs.Option.{option_map}
use Rattle.std.specs.List.{list_any}
use Rattle.std.proofs.lemmas.Bool.{eqb-true}
use Rattle.indexmap.specs.IndexSet.{insert_key}
use Rattle.iris_name.specs.Names.{same_name}
use Rattle.iris_name.specs.NameLaws.{same_name-true, same_name-symm}
use Rattle.iris_name.specs.declared.name.Name.{Name}
use Rattle.iris_desk.specs.declared.out.Out.{Out}
use Rattle.iris_desk.specs.Outs.{touched_out, touched_where, out_in}
use Rattle.iris_desk.specs.AtDesk.{DeskState, asked_desk, entered_desk, begun_desk, ended_desk, touched_desk}
use Rattle.iris_desk.specs.AtDesks.{DesksState, desk_at, asked_by, keeps_for, out_for, out_of}
use Rattle.iris_desk.specs.Laws.{AskLooksUp, BeginLooksUp, EndLooksUp, EnterLooksUp, ListedIsOut, OutIsAtItsDesk, TouchLooksUp}
use Rattle.iris_desk.proofs.OutLists.{began_at_name, began_elsewhere, ended_at_name, ended_elsewhere, found_name, found_listed, listed_found}
use Rattle.iris_desk.proofs.OutOf.{found_for, for_found, for_none, none_for, same_of, mapped_of, at_desk}
use Rattle.iris_desk.proofs.Keeping.{changed_look, unchanged_look, out_look, kept_look, asked_look, changed_apart, asked_was, entered_was, begun_was, ended_was, touched_for, touched_apart, desk_there, desk_sound}

pub out_is_at : OutIsAtItsDesk
out_is_at d n w o sound = (found_for d n w o, for_found d n w o sound.apart)

pub listed_is : ListedIsOut
listed_is d w desk o sound at = (
  (λ c. for_found d o.name w o sound.apart (ap (out_look o.name) at ∙ listed_found o desk.out c.0 (desk_sound d w desk sound at).once c.1 c.2)),
  (λ e. found_listed o.name o desk.out (sym (ap (out_look o.name) at) ∙ found_for d o.name w o e)),
)

-- ---- a request is kept, and handed out

pub ask_looks : AskLooksUp
ask_looks who r old new sound le c = record {
  out = λ q. same_of old new q sound.apart (changed_apart old new who (asked_desk r) c sound.apart (asked_was old r)) (unchanged_look old new who (asked_desk r) c (out_look q) (outs q));
  kept = λ w q. unchanged_look old new who (asked_desk r) c (kept_look q) (keeps q) w;
  asked = λ w. changed_look old new who (asked_desk r) c asked_look w ∙ by w (w == who) refl;
} where
  outs : (q : Name) (z : Option DeskState) → out_look q (option_map (asked_desk r) z) ≡ out_look q z
  outs q None = refl
  outs q (Some x) = refl

  keeps : (q : Name) (z : Option DeskState) → kept_look q (option_map (asked_desk r) z) ≡ kept_look q z
  keeps q None = refl
  keeps q (Some x) = refl

  by : (w : ℕ) (b : Bool) → (w == who) ≡ b → cond b (asked_look (option_map (asked_desk r) (desk_at old w))) (asked_by old w) ≡ cond b (Some r) (asked_by old w)
  by w true e =
      let h = desk_there old who sound le in
      ap (λ m. asked_look (option_map (asked_desk r) (desk_at old m))) (eqb-true w who e) ∙ ap (λ z. asked_look (option_map (asked_desk r) z)) h.1
  by w false e = refl

pub enter_looks : EnterLooksUp
enter_looks who old new sound c = record {
  out = λ q. same_of old new q sound.apart (changed_apart old new who entered_desk c sound.apart (entered_was old)) (unchanged_look old new who entered_desk c (out_look q) (outs q));
  kept = λ w q. changed_look old new who entered_desk c (kept_look q) w ∙ ap (λ z. cond (w == who) z (keeps_for old w q)) (keeps q (desk_at old w));
  asked = λ w. changed_look old new who entered_desk c asked_look w ∙ ap (λ z. cond (w == who) z (asked_by old w)) (asks (desk_at old w));
} where
  outs : (q : Name) (z : Option DeskState) → out_look q (option_map entered_desk z) ≡ out_look q z
  outs q None = refl
  outs q (Some x) = refl

  keeps : (q : Name) (z : Option DeskState) → kept_look q (option_map entered_desk z) ≡ false
  keeps q None = refl
  keeps q (Some x) = refl

  asks : (z : Option DeskState) → asked_look (option_map entered_desk z) ≡ None
  asks None = refl
  asks (Some x) = refl

-- ---- something begins

pub begin_looks : BeginLooksUp
begin_looks who o old new sound le free c = record {
  out = λ q. by q (same_name o.name q) refl;
  kept = λ w q. unchanged_look old new who (begun_desk o) c (kept_look q) (keeps q) w;
  asked = λ w. unchanged_look old new who (begun_desk o) c asked_look asks w;
} where
  one : (n : Name) (w v : ℕ) (a p : Out) → out_for new w n ≡ Some a → out_for new v n ≡ Some p → w ≡ v
  one = changed_apart old new who (begun_desk o) c sound.apart (begun_was old o sound.apart free)

  keeps : (q : Name) (z : Option DeskState) → kept_look q (option_map (begun_desk o) z) ≡ kept_look q z
  keeps q None = refl
  keeps q (Some x) = refl

  asks : (z : Option DeskState) → asked_look (option_map (begun_desk o) z) ≡ asked_look z
  asks None = refl
  asks (Some x) = refl

  here : out_for new who o.name ≡ Some o
  here =
      let h = desk_there old who sound le in
      let none : out_in h.0.out o.name ≡ None = sym (ap (out_look o.name) h.1) ∙ none_for old o.name sound.apart free who in
      changed_look old new who (begun_desk o) c (out_look o.name) who
      ∙ ap (λ b. cond b (out_look o.name (option_map (begun_desk o) (desk_at old who))) (out_for old who o.name)) (eq-eqb who who refl)
      ∙ ap (λ z. out_look o.name (option_map (begun_desk o) z)) h.1
      ∙ began_at_name o h.0.out none

  outs : (q : Name) → same_name o.name q ≡ false → (z : Option DeskState) → out_look q (option_map (begun_desk o) z) ≡ out_look q z
  outs q e None = refl
  outs q e (Some x) = began_elsewhere o q x.out e

  by : (q : Name) (b : Bool) → same_name o.name q ≡ b → out_of new q ≡ cond b (Some (who, o)) (out_of old q)
  by q true e = subst (λ m. out_of new m ≡ Some (who, o)) (same_name-true o.name q e) (for_found new o.name who o one here)
  by q false e = same_of old new q sound.apart one (unchanged_look old new who (begun_desk o) c (out_look q) (outs q e))

-- ---- what is out ends

any_last : (q n : Name) (ks : List Name) → list_any (same_name q) (ks ++ n ∷ []) ≡ (same_name q n || list_any (same_name q) ks)
any_last q n [] = refl
any_last q n (k ∷ ks) = ap (λ b. same_name q k || b) (any_last q n ks) ∙ by (same_name q k) (same_name q n) (list_any (same_name q) ks) where
  by : (a b c : Bool) → (a || (b || c)) ≡ (b || (a || c))
  by true true c = refl
  by true false c = refl
  by false b c = refl

-- a name is kept, once
kept_more : (n q : Name) (ks : List Name) → list_any (same_name q) (insert_key same_name ks n) ≡ cond (same_name n q) true (list_any (same_name q) ks)
kept_more n q ks = by (list_any (same_name n) ks) (same_name n q) refl refl where
  by : (a b : Bool) → list_any (same_name n) ks ≡ a → same_name n q ≡ b → list_any (same_name q) (cond a ks (ks ++ n ∷ [])) ≡ cond b true (list_any (same_name q) ks)
  by true true s t = subst (λ m. list_any (same_name m) ks ≡ true) (same_name-true n q t) s
  by true false s t = refl
  by false b s t = any_last q n ks ∙ ap (λ c. c || list_any (same_name q) ks) (same_name-symm q n ∙ t) ∙ or_cond b (list_any (same_name q) ks) where
    or_cond : (b c : Bool) → (b || c) ≡ cond b true c
    or_cond true c = refl
    or_cond false c = refl

pub end_looks : EndLooksUp
end_looks who keep n o old new sound at c = record {
  out = λ q. by q (same_name n q) refl;
  kept = λ w q. changed_look old new who (ended_desk keep n) c (kept_look q) w ∙ keeps w q (w == who) refl;
  asked = λ w. unchanged_look old new who (ended_desk keep n) c asked_look asks w;
} where
  one : (n : Name) (w v : ℕ) (a p : Out) → out_for new w n ≡ Some a → out_for new v n ≡ Some p → w ≡ v
  one = changed_apart old new who (ended_desk keep n) c sound.apart (ended_was old keep n)

  asks : (z : Option DeskState) → asked_look (option_map (ended_desk keep n) z) ≡ asked_look z
  asks None = refl
  asks (Some x) = refl

  gone : (z : Option DeskState) → out_look n (option_map (ended_desk keep n) z) ≡ None
  gone None = refl
  gone (Some x) = ended_at_name n x.out

  -- it is out nowhere, since it was out at no other desk
  nowhere : (w : ℕ) → out_for new w n ≡ None
  nowhere w = changed_look old new who (ended_desk keep n) c (out_look n) w ∙ at_desk (w == who) refl where
    elsewhere : (z : Option Out) → out_for old w n ≡ z → (w == who) ≡ false → z ≡ None
    elsewhere None s e = refl
    elsewhere (Some p) s e = absurd (let h = sound.apart n w who p o s at in let g = ap (λ (m : ℕ). m == who) h ∙ eq-eqb who who refl in cc)

    at_desk : (b : Bool) → (w == who) ≡ b → cond b (out_look n (option_map (ended_desk keep n) (desk_at old w))) (out_for old w n) ≡ None
    at_desk true e = gone (desk_at old w)
    at_desk false e = elsewhere (out_for old w n) refl e

  outs : (q : Name) → same_name n q ≡ false → (z : Option DeskState) → out_look q (option_map (ended_desk keep n) z) ≡ out_look q z
  outs q e None = refl
  outs q e (Some x) = ended_elsewhere n q x.out e

  by : (q : Name) (b : Bool) → same_name n q ≡ b → out_of new q ≡ cond b None (out_of old q)
  by q true e = subst (λ m. out_of new m ≡ None) (same_name-true n q e) (for_none new n nowhere)
  by q false e = same_of old new q sound.apart one (unchanged_look old new who (ended_desk keep n) c (out_look q) (outs q e))

  kept_at : (q : Name) (z : Option DeskState) → out_look n z ≡ Some o → kept_look q (option_map (ended_desk keep n) z) ≡ cond (keep && (true && same_name n q)) true (kept_look q z)
  kept_at q None e = absurd (cc)
  kept_at q (Some x) e = kept_by keep where
    kept_by : (k : Bool) → list_any (same_name q) (cond k (insert_key same_name x.kept n) x.kept) ≡ cond (k && (true && same_name n q)) true (list_any (same_name q) x.kept)
    kept_by true = kept_more n q x.kept
    kept_by false = refl

  off : (k b : Bool) → b ≡ cond (k && (false && true)) true b
  off true b = refl
  off false b = refl

  keeps : (w : ℕ) (q : Name) (b : Bool) → (w == who) ≡ b → cond b (kept_look q (option_map (ended_desk keep n) (desk_at old w))) (keeps_for old w q) ≡ cond (keep && (b && same_name n q)) true (keeps_for old w q)
  keeps w q true e = kept_at q (desk_at old w) (subst (λ m. out_for old m n ≡ Some o) (sym (eqb-true w who e)) at)
  keeps w q false e = off keep (keeps_for old w q)

-- ---- what is out is touched

out_name : (d : DesksState) (q : Name) (w : ℕ) (o : Out) → out_for d w q ≡ Some o → q ≡ o.name
out_name d q w o e = by (desk_at d w) e where
  by : (z : Option DeskState) → out_look q z ≡ Some o → q ≡ o.name
  by None e = absurd (cc)
  by (Some x) e = found_name q o x.out e

pub touch_looks : TouchLooksUp
touch_looks n old new sound c = record {
  out = λ q.
      mapped_of old new q (touched_where n) sound.apart (touched_apart n old new c sound.apart) (λ w. touched_for n old new c w q) ∙ by q (out_of old q) refl (same_name n q) refl;
  kept = λ w q. ap (kept_look q) (c w) ∙ keeps q (desk_at old w);
  asked = λ w. ap asked_look (c w) ∙ asks (desk_at old w);
} where
  keeps : (q : Name) (z : Option DeskState) → kept_look q (option_map (touched_desk n) z) ≡ kept_look q z
  keeps q None = refl
  keeps q (Some x) = refl

  asks : (z : Option DeskState) → asked_look (option_map (touched_desk n) z) ≡ asked_look z
  asks None = refl
  asks (Some x) = refl

  by : (q : Name) (z : Option (ℕ × Out)) → out_of old q ≡ z → (b : Bool) → same_name n q ≡ b → option_map (at_desk (touched_where n)) z ≡ cond b (option_map (λ p. (p.0, touched_out p.1)) z) z
  by q None s true e = refl
  by q None s false e = refl
  by q (Some p) s b e = ap (λ t. Some (p.0, cond t (touched_out p.1) p.1)) (subst (λ m. same_name n m ≡ b) (out_name old q p.0 p.1 (found_for old q p.0 p.1 s)) e) ∙ over b where
    over : (b : Bool) → ◌≡◌ {A = Option (ℕ × Out)} (Some (p.0, cond b (touched_out p.1) p.1)) (cond b (Some (p.0, touched_out p.1)) (Some p))
    over true = refl
    over false = refl
