-- The steps of a session, where its notes may be told.
use Rattle.std.proofs.Common.{◌≡◌, ◌≢◌, ◌⊎◌, inl, inr, ℕ, zero, suc, ◌+◌, ◌*◌, ◌<◌, List, [], ◌∷◌, ◌++◌, length, set, get_or, drop, take, ◌==◌, Bool, cond, Option, Some, None, refl, sym, ◌∙◌, ap, subst, arith, codes}
use Rattle.std.proofs.lemmas.List.{take_at, length-set}
use Rattle.std.proofs.lemmas.Bool.Decides.{eqb_tells}
use Rattle.iris_name.specs.declared.note.Answer.{Answer}
use Rattle.iris_name.specs.declared.note.Note.{Note}
use Rattle.iris_name.specs.declared.note.Note.TheVariants.{Call, Got, Put}
use Rattle.iris_name.specs.declared.request.Request.{Request}
use Rattle.iris_name.specs.declared.request.Request.TheVariants.{Write, Read}
use Rattle.iris_name.specs.declared.request.Reply.{Reply}
use Rattle.iris_name.specs.declared.request.Reply.TheVariants.{Done, Bytes}
use Rattle.iris_name.specs.History.{Past, Stamped, past_of}
use Rattle.iris_name.specs.Hmac.{record_of, tag}
use Rattle.iris_name.specs.Told.{appended}
use Rattle.iris_history.specs.Values.{AreBytes, IsReply}
use Rattle.iris_history.proofs.Growth.{judged_more}
use Rattle.iris_history.proofs.Pasts.{past_last}
use Rattle.iris.specs.Agrees.{RegistersAgree, Keeps}
use Rattle.iris.specs.Answers.{IsRightReply}
use Rattle.iris.specs.Registers.{registers, register_rules, BadRegisters, LegalRegisters, Clean, register_at, block_name}
use Rattle.iris_rows.specs.Rows.{zeros}
use Rattle.iris.specs.declared.session.Session.{Session}
use Rattle.iris.specs.Lines.{filled_block, read_of}
use Rattle.iris.specs.Session.{IsJudged, IsSessionReady, HasShape}
use Rattle.iris.specs.Shape.{IsShaped, Empty, Wrote, Fetched, Had}
use Rattle.iris.specs.Top.{IsEmptyLog}
use Rattle.iris.proofs.Fillings.{path_is_text, bytes_zeros, bytes_filled}
use Rattle.iris.proofs.Readings.{read_here, read_zeros, read_got, got_lawful}
use Rattle.iris.proofs.Steps.{noted, wrote, judged_call}
use Rattle.iris.proofs.Tables.{table, is_live, length_zeros}

-- what isn't live isn't clean
not_live : (key : List ℕ) (past : Past) (p : ℕ) → (table key past).version p ≡ 0 → Clean key past p → ⊥
not_live key past p e c = is_live (table key past) p c.live e

past_last_two : (notes : List Note) (x y : Note) → past_of (((notes ++ x ∷ []) ++ y ∷ []) ∷ []) ≡ noted y ∷ noted x ∷ past_of (notes ∷ [])
past_last_two notes x y = past_last (notes ++ x ∷ []) y ∙ ap (λ p. noted y ∷ p) (past_last notes x)

place_is : (p : ℕ) → register_at (p * 4096) ≡ p
place_is p = omega arith

-- the notes of a write, told or not
pub wrote_told : (key : List ℕ) (counter notes : ℕ) (versions : List ℕ) (kept : List (Option (List ℕ))) (old mid new : Option (List Note))
    (p : ℕ) (b bytes : List ℕ) (request : Request) (since : ℕ) (ok : Bool) (held : Option (List ℕ))
    → Keeps key counter notes versions kept old → mid ≡ appended old (Call 1 request Done) → new ≡ appended mid (Put 1 since (block_name p) bytes ok)
    → request ≡ Write (codes "/f") (p * 4096) b → bytes ≡ record_of key 2 p (counter + 1) b
    → p < length versions → p < length kept → length b ≡ 4096 → AreBytes b → since ≡ notes + 1 → held ≡ cond ok None (Some b)
    → Keeps key (counter + 1) (notes + 2) (set versions p (counter + 1)) (set kept p held) new
wrote_told key counter notes versions kept None mid new p b bytes request since ok held k m n r e v w len values s h =
    subst (Keeps key (counter + 1) (notes + 2) (set versions p (counter + 1)) (set kept p held)) (sym (n ∙ ap (λ z. appended z (Put 1 since (block_name p) bytes ok)) m)) tt
wrote_told key counter notes versions kept (Some ns) mid new p b bytes request since ok held k m n r e v w len values s h =
    let after : new ≡ Some ((ns ++ Call 1 request Done ∷ []) ++ Put 1 since (block_name p) bytes ok ∷ []) = n ∙ ap (λ z. appended z (Put 1 since (block_name p) bytes ok)) m in
    let place = place_is p in
    let agrees = wrote key counter notes versions kept (past_of (ns ∷ [])) 1 (codes "/f") (p * 4096) b since ok k.0 (subst (λ z. z < length versions) (sym place) v) (subst (λ z. z < length kept) (sym place) w) len s (path_is_text, values) in
    let here : RegistersAgree key (counter + 1) (notes + 2) (set versions p (counter + 1)) (set kept p (cond ok None (Some b))) (noted (Put 1 since (block_name p) (record_of key 2 p (counter + 1) b) ok) ∷ noted (Call 1 (Write (codes "/f") (p * 4096) b) Done) ∷ past_of (ns ∷ []))
    = subst (λ z. RegistersAgree key (counter + 1) (notes + 2) (set versions z (counter + 1)) (set kept z (cond ok None (Some b))) (noted (Put 1 since (block_name z) (record_of key 2 z (counter + 1) b) ok) ∷ noted (Call 1 (Write (codes "/f") (p * 4096) b) Done) ∷ past_of (ns ∷ []))) place agrees in
    let shaped = Wrote (past_of (ns ∷ [])) 0 0 1 since (p * 4096) (codes "/f") b bytes Done ok (omega (arith, s, k.0.notes)) k.1 in
    let shaped' : IsShaped key (noted (Put 1 since (block_name p) bytes ok) ∷ noted (Call 1 request Done) ∷ past_of (ns ∷ []))
    = subst (λ q. IsShaped key (noted (Put 1 since (block_name p) bytes ok) ∷ noted (Call 1 q Done) ∷ past_of (ns ∷ []))) (sym r) (subst (λ z. IsShaped key (noted (Put 1 since (block_name z) bytes ok) ∷ noted (Call 1 (Write (codes "/f") (p * 4096) b) Done) ∷ past_of (ns ∷ []))) place shaped) in
    subst (Keeps key (counter + 1) (notes + 2) (set versions p (counter + 1)) (set kept p held)) (sym after)
    (subst (λ q. RegistersAgree key (counter + 1) (notes + 2) (set versions p (counter + 1)) (set kept p held) q × IsShaped key q) (sym (past_last_two ns (Call 1 request Done) (Put 1 since (block_name p) bytes ok)))
    (rw (r, e, h) here, shaped'))

appended_told : (old : Option (List Note)) (x : Note) (ns : List Note) → old ≡ Some ns → appended old x ≡ Some (ns ++ x ∷ [])
appended_told old x ns e = ap (λ o. appended o x) e

-- the note of a read that needs no get
pub read_zeros_told : (key : List ℕ) (counter notes : ℕ) (versions : List ℕ) (kept : List (Option (List ℕ))) (old new : Option (List Note))
    (p : ℕ) (b : List ℕ) (request : Request)
    → Keeps key counter notes versions kept old → new ≡ appended old (Call 1 request (Bytes b)) → request ≡ Read (codes "/f") (p * 4096) 4096
    → p < 65536 → get_or versions p 0 ≡ 0 → b ≡ zeros
    → Keeps key counter (notes + 1) versions kept new
read_zeros_told key counter notes versions kept None new p b request k n r lt z e = subst (Keeps key counter (notes + 1) versions kept) (sym n) tt
read_zeros_told key counter notes versions kept (Some ns) new p b request k n r lt z e =
    let place = place_is p in
    let here = read_zeros key counter notes versions kept (past_of (ns ∷ [])) 1 (codes "/f") (p * 4096) 4096 k.0 path_is_text bytes_zeros (subst (λ q. q < 65536) (sym place) lt) (subst (λ q. get_or versions q 0 ≡ 0) (sym place) z) in
    let none : (table key (past_of (ns ∷ []))).version (register_at (p * 4096)) ≡ 0 = sym (k.0.version (register_at (p * 4096)) (subst (λ q. q < 65536) (sym place) lt)) ∙ subst (λ q. get_or versions q 0 ≡ 0) (sym place) z in
    let shaped = Had (past_of (ns ∷ [])) 0 1 (p * 4096) 4096 (codes "/f") (Bytes b) (not_live key (past_of (ns ∷ [])) (register_at (p * 4096)) none) k.1 in
    subst (Keeps key counter (notes + 1) versions kept) (sym n)
    (subst (λ q. RegistersAgree key counter (notes + 1) versions kept q × IsShaped key q) (sym (past_last ns (Call 1 request (Bytes b)))) (rw (r, e) here, rw r shaped))

pub read_kept_told : (key : List ℕ) (counter notes : ℕ) (versions : List ℕ) (kept : List (Option (List ℕ))) (old new : Option (List Note))
    (p : ℕ) (b : List ℕ) (request : Request)
    → Keeps key counter notes versions kept old → new ≡ appended old (Call 1 request (Bytes b)) → request ≡ Read (codes "/f") (p * 4096) 4096
    → AreBytes b → get_or kept p None ≡ Some b
    → Keeps key counter (notes + 1) versions kept new
read_kept_told key counter notes versions kept None new p b request k n r values h = subst (Keeps key counter (notes + 1) versions kept) (sym n) tt
read_kept_told key counter notes versions kept (Some ns) new p b request k n r values h =
    let place = place_is p in
    let both = k.0.held (register_at (p * 4096)) b (subst (λ q. get_or kept q None ≡ Some b) (sym place) h) in
    let here = read_here key counter notes versions kept (past_of (ns ∷ [])) 1 (codes "/f") (p * 4096) 4096 b k.0 path_is_text values both.0 in
    let shaped = Had (past_of (ns ∷ [])) 0 1 (p * 4096) 4096 (codes "/f") (Bytes b) both.1 k.1 in
    subst (Keeps key counter (notes + 1) versions kept) (sym n)
    (subst (λ q. RegistersAgree key counter (notes + 1) versions kept q × IsShaped key q) (sym (past_last ns (Call 1 request (Bytes b)))) (rw r here, rw r shaped))

-- the notes of a get and of the read that it is for
pub read_got_told : (key : List ℕ) (counter notes : ℕ) (versions : List ℕ) (kept : List (Option (List ℕ))) (old mid new : Option (List Note))
    (p : ℕ) (request : Request) (since : ℕ) (answer : Answer) (reply : Reply)
    → Keeps key counter notes versions kept old → mid ≡ appended old (Got 1 since (block_name p) answer) → new ≡ appended mid (Call 1 request reply)
    → request ≡ Read (codes "/f") (p * 4096) 4096
    → p < 65536 → get_or versions p 0 ≢ 0 → get_or kept p None ≡ None → since ≡ notes → IsReply reply → IsRightReply key p (get_or versions p 0) answer reply
    → Keeps key counter (notes + 2) versions kept new
read_got_told key counter notes versions kept None mid new p request since answer reply k m n r lt live none s value f =
    subst (Keeps key counter (notes + 2) versions kept) (sym (n ∙ ap (λ z. appended z (Call 1 request reply)) m)) tt
read_got_told key counter notes versions kept (Some ns) mid new p request since answer reply k m n r lt live none s value f =
    let after : new ≡ Some ((ns ++ Got 1 since (block_name p) answer ∷ []) ++ Call 1 request reply ∷ []) = n ∙ ap (λ z. appended z (Call 1 request reply)) m in
    let place = sym (place_is p) in
    let agrees = read_got key counter notes versions kept (past_of (ns ∷ [])) 1 (codes "/f") (p * 4096) 4096 since answer reply k.0 path_is_text value
    (subst (λ q. q < 65536) place lt) (subst (λ q. get_or versions q 0 ≢ 0) place live) (subst (λ q. get_or kept q None ≡ None) place none) s
    (subst (λ q. IsRightReply key q (get_or versions q 0) answer reply) place f) in
    let here : RegistersAgree key counter (notes + 2) versions kept (noted (Call 1 (Read (codes "/f") (p * 4096) 4096) reply) ∷ noted (Got 1 since (block_name p) answer) ∷ past_of (ns ∷ []))
    = subst (λ q. RegistersAgree key counter (notes + 2) versions kept (noted (Call 1 (Read (codes "/f") (p * 4096) 4096) reply) ∷ noted (Got 1 since (block_name q) answer) ∷ past_of (ns ∷ []))) (sym place) agrees in
    let clean = k.0.clean (register_at (p * 4096)) (subst (λ q. q < 65536) place lt) (λ z. live (subst (λ q. get_or versions q 0 ≡ 0) (sym place) (k.0.version (register_at (p * 4096)) (subst (λ q. q < 65536) place lt) ∙ z))) (subst (λ q. get_or kept q None ≡ None) place none) in
    let fits = subst (λ v. IsRightReply key (register_at (p * 4096)) v answer reply) (k.0.version (register_at (p * 4096)) (subst (λ q. q < 65536) place lt)) (subst (λ q. IsRightReply key q (get_or versions q 0) answer reply) place f) in
    let shaped = Fetched (past_of (ns ∷ [])) 0 0 1 since (p * 4096) 4096 (codes "/f") reply answer (omega (arith, s, k.0.notes)) fits clean k.1 in
    let shaped' : IsShaped key (noted (Call 1 request reply) ∷ noted (Got 1 since (block_name p) answer) ∷ past_of (ns ∷ []))
    = subst (λ q. IsShaped key (noted (Call 1 q reply) ∷ noted (Got 1 since (block_name p) answer) ∷ past_of (ns ∷ []))) (sym r) (subst (λ z. IsShaped key (noted (Call 1 (Read (codes "/f") (p * 4096) 4096) reply) ∷ noted (Got 1 since (block_name z) answer) ∷ past_of (ns ∷ []))) (sym place) shaped) in
    subst (Keeps key counter (notes + 2) versions kept) (sym after)
    (subst (λ q. RegistersAgree key counter (notes + 2) versions kept q × IsShaped key q) (sym (past_last_two ns (Got 1 since (block_name p) answer) (Call 1 request reply)))
    (rw r here, shaped'))

drop_nothing : {X : Type 0} (m : ℕ) → drop {A = X} m [] ≡ []
drop_nothing zero = refl
drop_nothing (suc m) = refl

-- before the first note
pub keeps_first : (key : List ℕ) (counter notes : ℕ) (versions : List ℕ) (kept : List (Option (List ℕ))) (old : Option (List Note))
    → IsEmptyLog old → counter ≡ 0 → notes ≡ 0 → ((p : ℕ) → get_or versions p 0 ≡ 0) → ((p : ℕ) → get_or kept p None ≡ None)
    → Keeps key counter notes versions kept old
keeps_first key counter notes versions kept None e c n v k = tt
keeps_first key counter notes versions kept (Some ns) e c n v k = subst (λ z. Keeps key counter notes versions kept (Some z)) (sym e) (
  record {
    count = c;
    notes = n;
    version = λ p lt. v p;
    whole = λ m p. ap (λ q. length ((table key q).block p)) (drop_nothing {X = Stamped} m) ∙ length_zeros;
    held = λ p b h. (let no = sym (k p) ∙ h in absurd (cc));
    clean = λ p lt live none. absurd (live refl);
    judged = inr tt;
  },
  Empty,
)

-- what is kept says that the session is bad or legal
pub keeps_judged : (key : List ℕ) (counter notes : ℕ) (versions : List ℕ) (kept : List (Option (List ℕ))) (old : Option (List Note))
    → Keeps key counter notes versions kept old → IsJudged key old
keeps_judged key counter notes versions kept None k = tt
keeps_judged key counter notes versions kept (Some ns) k = k.0.judged

-- what is kept says which shape the session has
pub keeps_shaped : (key : List ℕ) (counter notes : ℕ) (versions : List ℕ) (kept : List (Option (List ℕ))) (ns : List Note)
    → Keeps key counter notes versions kept (Some ns) → IsShaped key (past_of (ns ∷ []))
keeps_shaped key counter notes versions kept ns k = k.1

-- a write's call leaves the session bad or legal
pub called_judged : (key : List ℕ) (old new : Option (List Note)) (p : ℕ) (b : List ℕ) (request : Request)
    → IsJudged key old → new ≡ appended old (Call 1 request Done) → request ≡ Write (codes "/f") (p * 4096) b → AreBytes b → IsJudged key new
called_judged key None new p b request j e r values = subst (IsJudged key) (sym e) tt
called_judged key (Some ns) new p b request j e r values =
    subst (IsJudged key) (sym e)
    (subst (λ q. BadRegisters key q ⊎ LegalRegisters key q) (sym (past_last ns (Call 1 request Done)))
    (rw r (judged_call key 1 (codes "/f") (p * 4096) b (past_of (ns ∷ [])) (path_is_text, values) j)))

-- a get of a clean place leaves the session bad or legal
pub got_judged : (key : List ℕ) (counter notes : ℕ) (versions : List ℕ) (kept : List (Option (List ℕ))) (old new : Option (List Note)) (p since : ℕ) (answer : Answer)
    → Keeps key counter notes versions kept old → new ≡ appended old (Got 1 since (block_name p) answer) → p < 65536
    → get_or versions p 0 ≢ 0 → get_or kept p None ≡ None → since ≡ notes → IsJudged key new
got_judged key counter notes versions kept None new p since answer k e lt live none s = subst (IsJudged key) (sym e) tt
got_judged key counter notes versions kept (Some ns) new p since answer k e lt live none s =
    let past = past_of (ns ∷ []) in
    let clean = k.0.clean p lt (λ z. live (k.0.version p lt ∙ z)) none in
    subst (IsJudged key) (sym e)
    (subst (λ q. BadRegisters key q ⊎ LegalRegisters key q) (sym (past_last ns (Got 1 since (block_name p) answer)))
    (judged_more (registers key) (register_rules key) past (noted (Got 1 since (block_name p) answer)) (got_lawful key 1 since p answer past (s ∙ k.0.notes) clean) k.0.judged))

-- what a ready session says of its notes
pub ready_judged : (key : List ℕ) (s : Session) (old : Option (List Note)) → IsSessionReady key s old → IsJudged key old
ready_judged key s old r = keeps_judged key s.places.counter s.noted s.places.versions.items s.places.kept.items old r.keeps

-- after a read that needs no get
pub had_ready : (key : List ℕ) (s t : Session) (old mid new : Option (List Note)) (p : ℕ) (b : List ℕ) (request : Request)
    → IsSessionReady key s old → mid ≡ old → new ≡ appended mid (Call 1 request (Bytes b)) → request ≡ read_of p → p < 65536
    → t.places ≡ s.places → t.noted ≡ s.noted + 1 → AreBytes b
    → Some b ≡ cond (get_or s.places.versions.items p 0 == 0) (Some zeros) (get_or s.places.kept.items p None)
    → IsSessionReady key t new
had_ready key s t old mid new p b request r m e q lt same noted values found = record {
  versions = ap (λ a. length a.versions.items) same ∙ r.versions;
  kept = ap (λ a. length a.kept.items) same ∙ r.kept;
  keeps = rw (same, noted) (elim (eqb_tells (get_or s.places.versions.items p 0) 0) [
    | inl z ↦ read_zeros_told key s.places.counter s.noted s.places.versions.items s.places.kept.items old new p b request r.keeps (e ∙ ap (λ o. appended o (Call 1 request (Bytes b))) m) q lt z.1
        (some_one (found ∙ ap (λ v. cond v (Some zeros) (get_or s.places.kept.items p None)) z.0))
    | inr z ↦ read_kept_told key s.places.counter s.noted s.places.versions.items s.places.kept.items old new p b request r.keeps (e ∙ ap (λ o. appended o (Call 1 request (Bytes b))) m) q values
        (sym (found ∙ ap (λ v. cond v (Some zeros) (get_or s.places.kept.items p None)) z.0))
  ]);
}
  where
    some_one : {x y : List ℕ} → Some x ≡ Some y → x ≡ y
    some_one h = cc

-- after a read with its get
pub got_ready : (key : List ℕ) (s t : Session) (old mid new : Option (List Note)) (p since : ℕ) (answer : Answer) (reply : Reply) (request : Request)
    → IsSessionReady key s old → mid ≡ appended old (Got 1 since (block_name p) answer) → new ≡ appended mid (Call 1 request reply) → request ≡ read_of p → p < 65536
    → t.places ≡ s.places → t.noted ≡ s.noted + 2 → get_or s.places.versions.items p 0 ≢ 0 → get_or s.places.kept.items p None ≡ None → since ≡ s.noted
    → IsReply reply → IsRightReply key p (get_or s.places.versions.items p 0) answer reply
    → IsSessionReady key t new
got_ready key s t old mid new p since answer reply request r m e q lt same noted live none i value f = record {
  versions = ap (λ a. length a.versions.items) same ∙ r.versions;
  kept = ap (λ a. length a.kept.items) same ∙ r.kept;
  keeps = rw (same, noted) (read_got_told key s.places.counter s.noted s.places.versions.items s.places.kept.items old mid new p request since answer reply r.keeps m e q lt live none i value f);
}

-- after a write
pub wrote_ready : (key : List ℕ) (s t : Session) (old mid new : Option (List Note)) (p : ℕ) (b block bytes : List ℕ) (since : ℕ) (ok : Bool) (held : Option (List ℕ)) (request : Request)
    → IsSessionReady key s old → mid ≡ appended old (Call 1 request Done) → new ≡ appended mid (Put 1 since (block_name p) bytes ok)
    → request ≡ Write (codes "/f") (p * 4096) block → block ≡ filled_block b → bytes ≡ record_of key 2 p (s.places.counter + 1) block → p < 65536
    → length block ≡ 4096 → AreBytes b → since ≡ s.noted + 1 → held ≡ cond ok None (Some (take 4096 bytes))
    → t.places.counter ≡ s.places.counter + 1 → t.places.versions.items ≡ set s.places.versions.items p (s.places.counter + 1) → t.places.kept.items ≡ set s.places.kept.items p held
    → t.noted ≡ s.noted + 2
    → IsSessionReady key t new
wrote_ready key s t old mid new p b block bytes since ok held request r m e q f w lt len values i h counter versions kept noted =
    let front : take 4096 bytes ≡ block = ap (take 4096) w ∙ take_at block (tag key 2 p (s.places.counter + 1) block) 4096 len in
    record {
      versions = ap length versions ∙ (length-set s.places.versions.items p (s.places.counter + 1) ∙ r.versions);
      kept = ap length kept ∙ (length-set s.places.kept.items p held ∙ r.kept);
      keeps = rw (counter, versions, kept, noted) (wrote_told key s.places.counter s.noted s.places.versions.items s.places.kept.items old mid new p block bytes request since ok held r.keeps m e q w
          (omega (arith, r.versions, lt)) (omega (arith, r.kept, lt)) len (subst AreBytes (sym f) (bytes_filled b values)) i (h ∙ ap (λ z. cond ok None (Some z)) front));
    }

-- the notes of a write leave the session bad or legal
pub wrote_judged : (key : List ℕ) (s : Session) (old mid new : Option (List Note)) (p : ℕ) (b block bytes : List ℕ) (since : ℕ) (ok : Bool) (request : Request)
    → IsSessionReady key s old → mid ≡ appended old (Call 1 request Done) → new ≡ appended mid (Put 1 since (block_name p) bytes ok)
    → request ≡ Write (codes "/f") (p * 4096) block → block ≡ filled_block b → bytes ≡ record_of key 2 p (s.places.counter + 1) block → p < 65536
    → length block ≡ 4096 → AreBytes b → since ≡ s.noted + 1 → IsJudged key new
wrote_judged key s old mid new p b block bytes since ok request r m e q f w lt len values i =
    keeps_judged key (s.places.counter + 1) (s.noted + 2) (set s.places.versions.items p (s.places.counter + 1)) (set s.places.kept.items p (cond ok None (Some block))) new
    (wrote_told key s.places.counter s.noted s.places.versions.items s.places.kept.items old mid new p block bytes request since ok (cond ok None (Some block)) r.keeps m e q w
    (omega (arith, r.versions, lt)) (omega (arith, r.kept, lt)) len (subst AreBytes (sym f) (bytes_filled b values)) i refl)

-- what a ready session says of its shape
pub ready_shaped : (key : List ℕ) (s : Session) (old : Option (List Note)) → IsSessionReady key s old → HasShape key old
ready_shaped key s old r = by_notes old r.keeps where
  by_notes : (old : Option (List Note)) → Keeps key s.places.counter s.noted s.places.versions.items s.places.kept.items old → HasShape key old
  by_notes None k = tt
  by_notes (Some ns) k = k.1
