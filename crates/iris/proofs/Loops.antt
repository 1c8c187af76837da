-- The session's loop over the lines.
use Rattle.std.proofs.Common.{◌≡◌, inr, ℕ, suc, ◌+◌, ◌<◌, ◌^◌, List, [], ◌∷◌, ◌++◌, length, map, get_or, None, Option, Some, refl, sym, ◌∙◌, ap, subst, arith, append_assoc}
use Rattle.std.specs.List.{All}
use Rattle.std.proofs.lemmas.List.{length-append}
use Rattle.iris_name.specs.declared.note.Note.{Note}
use Rattle.iris_store.specs.declared.Transfer.{Transfer}
use Rattle.iris.specs.declared.line.Line.{Line}
use Rattle.iris.specs.declared.session.Session.{Session}
use Rattle.iris.specs.Lines.{request_of}
use Rattle.iris.specs.Said.{silent}
use Rattle.iris.specs.Session.{Serves, Stops, IsSessionReady, IsFew, IsOneMore, ServedAtMost, IsJudged}
use Rattle.iris.specs.Top.{IsEmptyLog}
use Rattle.iris.proofs.Sessions.{keeps_first}
use Rattle.iris.proofs.Stretches.{serves_more, serves_none, stops_more, stops_first}

-- some lines are done, and the rest isn't
pub record Goes (key : List ℕ) (lines rest : List Line) (old new : Option (List Note)) (before after : Option (List Transfer)) (f g : ℕ) (session : Session) : Type 0 where
  pub done : List Line
  pub whole : lines ≡ done ++ rest
  pub serves : Serves (map request_of done) old new before after f g silent session.replies
  pub ready : IsSessionReady key session new
  pub most : ServedAtMost (length done) session

map-append : (xs ys : List Line) → map request_of (xs ++ ys) ≡ map request_of xs ++ map request_of ys
map-append [] ys = refl
map-append (x ∷ xs) ys = ap (λ z. request_of x ∷ z) (map-append xs ys)

append_nil : {A : Type 0} (xs : List A) → xs ++ [] ≡ xs
append_nil [] = refl
append_nil (x ∷ xs) = ap (λ ys. x ∷ ys) (append_nil xs)

-- a session that hasn't begun
pub goes_first : (key : List ℕ) (lines : List Line) (old : Option (List Note)) (before : Option (List Transfer)) (f : ℕ) (s : Session)
    → IsEmptyLog old → (length s.places.versions.items ≡ 65536) × (length s.places.kept.items ≡ 65536) → (s.places.counter ≡ 0) × (s.noted ≡ 0)
    → ((p : ℕ) → get_or s.places.versions.items p 0 ≡ 0) → ((p : ℕ) → get_or s.places.kept.items p None ≡ None) → s.replies ≡ silent
    → Goes key lines lines old old before before f f s
goes_first key lines old before f s fresh sizes counts versions kept replies = record {
  done = [];
  whole = refl;
  serves = serves_none old before f silent s.replies replies;
  ready = record {
    versions = sizes.0;
    kept = sizes.1;
    keeps = keeps_first key s.places.counter s.noted s.places.versions.items s.places.kept.items old fresh counts.0 counts.1 versions kept;
  };
  most = record { counter = omega (arith, counts.0); noted = omega (arith, counts.1); count = (let e : s.replies.count ≡ 0 = ap (λ r. r.count) replies in omega (arith, e)) };
}

-- one line more
pub goes_more : (key : List ℕ) (lines rest rest_now : List Line) (line : Line) (old mid new : Option (List Note)) (before between after : Option (List Transfer)) (f g h : ℕ) (s t : Session)
    → Goes key lines rest old mid before between f g s → rest ≡ line ∷ rest_now
    → IsSessionReady key t new → IsOneMore s t → Serves (request_of line ∷ []) mid new between after g h s.replies t.replies
    → Goes key lines rest_now old new before after f h t
goes_more key lines rest rest_now line old mid new before between after f g h s t a e ready more serves = record {
  done = a.done ++ line ∷ [];
  whole = a.whole ∙ (ap (λ z. a.done ++ z) e ∙ sym (append_assoc a.done (line ∷ []) rest_now));
  serves = subst (λ asked. Serves asked old new before after f h silent t.replies) (sym (map-append a.done (line ∷ [])))
      (serves_more (map request_of a.done) (request_of line ∷ []) old mid new before between after f g h silent s.replies t.replies a.serves serves);
  ready = ready;
  most = (let len = length-append a.done (line ∷ []) in record { counter = omega (arith, len, more.counter, a.most.counter); noted = omega (arith, len, more.noted, a.most.noted); count = omega (arith, len, more.count, a.most.count) });
}

-- the session's numbers stay small
pub goes_few : (key : List ℕ) (lines rest : List Line) (old new : Option (List Note)) (before after : Option (List Transfer)) (f g : ℕ) (s : Session)
    → Goes key lines rest old new before after f g s → length lines < 2 ^ 30 → IsFew s
goes_few key lines rest old new before after f g s a lt =
    let len : length lines ≡ length a.done + length rest = ap length a.whole ∙ length-append a.done rest in
    record { counter = omega (arith, len, a.most.counter); noted = omega (arith, len, a.most.noted); count = omega (arith, len, a.most.count) }

-- what all lines have, the next has
pub goes_next : (P : Line → Type 0) (done rest : List Line) (line : Line) → All P (done ++ line ∷ rest) → P line
goes_next P [] rest line h = h 0 line (omega arith)
goes_next P (x ∷ done) rest line h = goes_next P done rest line (λ k d lt. h (suc k) d (omega (arith, lt)))

pub goes_range : (P : Line → Type 0) (key : List ℕ) (lines rest rest_now : List Line) (line : Line) (old new : Option (List Note)) (before after : Option (List Transfer)) (f g : ℕ) (s : Session)
    → Goes key lines rest old new before after f g s → rest ≡ line ∷ rest_now → All P lines → P line
goes_range P key lines rest rest_now line old new before after f g s a e h = goes_next P a.done rest_now line (subst (All P) (a.whole ∙ ap (λ z. a.done ++ z) e) h)

-- all lines are done
pub goes_all : (key : List ℕ) (lines rest : List Line) (old new : Option (List Note)) (before after : Option (List Transfer)) (f g : ℕ) (s : Session)
    → Goes key lines rest old new before after f g s → rest ≡ [] → Serves (map request_of lines) old new before after f g silent s.replies
goes_all key lines rest old new before after f g s a e =
    subst (λ z. Serves (map request_of z) old new before after f g silent s.replies) (sym (a.whole ∙ (ap (λ z. a.done ++ z) e ∙ append_nil a.done))) a.serves

-- a line stopped for want of memory
pub goes_stops : (key : List ℕ) (lines rest rest_now : List Line) (line : Line) (old mid new : Option (List Note)) (before between after : Option (List Transfer)) (f g : ℕ) (s : Session)
    → Goes key lines rest old mid before between f g s → rest ≡ line ∷ rest_now
    → Stops key (request_of line ∷ []) mid new between after
    → Stops key (map request_of lines) old new before after
goes_stops key lines rest rest_now line old mid new before between after f g s a e stops =
    subst (λ z. Stops key z old new before after) (sym (ap (map request_of) (a.whole ∙ ap (λ z. a.done ++ z) e) ∙ map-append a.done (line ∷ rest_now)))
    (stops_more key (map request_of a.done) (request_of line ∷ map request_of rest_now) old mid new before between after f g silent s.replies a.serves
    (stops_first key (request_of line) (map request_of rest_now) mid new between after stops))

pub empty_by_length : (xs : List Line) → length xs ≡ 0 → xs ≡ []
empty_by_length [] e = refl
empty_by_length (x ∷ xs) e = absurd (omega (arith, e))

-- before its first note a session is legal
pub fresh_judged : (key : List ℕ) (old : Option (List Note)) → IsEmptyLog old → IsJudged key old
fresh_judged key None fresh = tt
fresh_judged key (Some notes) fresh = subst (λ z. IsJudged key (Some z)) (sym fresh) (inr tt)
