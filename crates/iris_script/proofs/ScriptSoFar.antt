-- Lines of a script that were read, and the rest of the script.
use Rattle.std.proofs.Common.{◌≡◌, ℕ, ◌+◌, ◌<◌, ◌≤◌, Bool, true, List, [], ◌∷◌, ◌++◌, length, map, refl, sym, ap, ◌∙◌, subst, arith, append_assoc, inl, inr}
use Rattle.std.specs.Prelude.{Result, Ok, Err, IfErr}
use Rattle.std.specs.Str.Lines.{strip_carriage_return}
use Rattle.std.proofs.lemmas.List.{append-nil, length-append}
use Rattle.iris_name.specs.declared.request.Request.{Request}
use Rattle.iris_script.specs.Cuts.{lines_of}
use Rattle.iris_script.specs.Script.{AllAsk, AreServed, IsCallLine, IsScriptFault, IsServiceFault, IsFaultOf, IsFirst, IsRefused, IsSkipped, NamesFarClient, script_lines}
use Rattle.iris_script.specs.declared.script.ScriptError.{ScriptError}
use Rattle.iris_script.specs.declared.script.ScriptError.TheVariants.{NotRequest, Client, NoMemory}

-- the lines before the rest were read as these calls
pub record IsSoFar (script rest : List ℕ) (number : ℕ) (calls : List (ℕ × Request)) : Type 0 where
  pub before : List (List ℕ)
  pub whole : script_lines script ≡ before ++ script_lines rest
  pub fine : AllAsk before calls
  pub place : number ≡ length before
  pub room : number + length rest ≤ length script

-- nothing is read yet
pub so_far_none : (script : List ℕ) → IsSoFar script script 0 []
so_far_none script = record { before = []; whole = refl; fine = refl; place = refl; room = omega arith }

-- a line is skipped
AllAsk-skip : (lines : List (List ℕ)) (calls : List (ℕ × Request)) (line : List ℕ) → AllAsk lines calls → IsSkipped line
    → AllAsk (lines ++ line ∷ []) calls
AllAsk-skip [] calls line all one = inl (one, all)
AllAsk-skip (l ∷ lines) calls line (inl h) one = inl (h.0, AllAsk-skip lines calls line h.1 one)
AllAsk-skip (l ∷ lines) calls line (inr h) one = inr (h.0, h.1, h.2, h.3, AllAsk-skip lines h.1 line h.4 one)

-- a line is a call
AllAsk-call : (lines : List (List ℕ)) (calls : List (ℕ × Request)) (line : List ℕ) (call : ℕ × Request) → AllAsk lines calls
    → IsCallLine line call → AllAsk (lines ++ line ∷ []) (calls ++ call ∷ [])
AllAsk-call [] calls line call all one = inr (call, [], ap (λ v. v ++ call ∷ []) all, one, refl)
AllAsk-call (l ∷ lines) calls line call (inl h) one = inl (h.0, AllAsk-call lines calls line call h.1 one)
AllAsk-call (l ∷ lines) calls line call (inr h) one =
    inr (h.0, h.1 ++ call ∷ [], ap (λ v. v ++ call ∷ []) h.2, h.3, AllAsk-call lines h.1 line call h.4 one)

-- the first line, without its carriage return
first_stripped : (rest line next : List ℕ) → lines_of rest ≡ line ∷ lines_of next
    → script_lines rest ≡ strip_carriage_return line ∷ script_lines next
first_stripped rest line next first = ap (map strip_carriage_return) first

-- one line more
so_far_line : (script rest line next : List ℕ) (number : ℕ) (calls more : List (ℕ × Request)) → IsSoFar script rest number calls
    → lines_of rest ≡ line ∷ lines_of next → length next < length rest
    → ((before : List (List ℕ)) → AllAsk before calls → AllAsk (before ++ strip_carriage_return line ∷ []) more)
    → IsSoFar script next (number + 1) more
so_far_line script rest line next number calls more h first shorter add =
    let stripped = strip_carriage_return line in
    let longer = length-append h.before (stripped ∷ []) in
    let place = h.place in
    let room = h.room in
    record {
      before = h.before ++ stripped ∷ [];
      whole = h.whole ∙ ap (λ v. h.before ++ v) (first_stripped rest line next first) ∙ sym (append_assoc h.before (stripped ∷ []) (script_lines next));
      fine = add h.before h.fine;
      place = omega (arith, longer, place);
      room = omega (arith, room);
    }

pub so_far_skip : (script rest line next : List ℕ) (number : ℕ) (calls : List (ℕ × Request)) → IsSoFar script rest number calls
    → lines_of rest ≡ line ∷ lines_of next → length next < length rest → IsSkipped (strip_carriage_return line)
    → IsSoFar script next (number + 1) calls
so_far_skip script rest line next number calls h first shorter one =
    so_far_line script rest line next number calls calls h first shorter (λ before all. AllAsk-skip before calls (strip_carriage_return line) all one)

pub so_far_call : (script rest line next : List ℕ) (number : ℕ) (calls : List (ℕ × Request)) (call : ℕ × Request)
    → IsSoFar script rest number calls → lines_of rest ≡ line ∷ lines_of next → length next < length rest
    → IsCallLine (strip_carriage_return line) call → IsSoFar script next (number + 1) (calls ++ call ∷ [])
so_far_call script rest line next number calls call h first shorter one =
    so_far_line script rest line next number calls (calls ++ call ∷ []) h first shorter
    (λ before all. AllAsk-call before calls (strip_carriage_return line) call all one)

-- the first line of the rest is bad
pub so_far_bad : (IsBad : List ℕ → Type 0) (script rest line next : List ℕ) (number n : ℕ) (calls : List (ℕ × Request))
    → IsSoFar script rest number calls → lines_of rest ≡ line ∷ lines_of next → n ≡ number + 1
    → IsBad (strip_carriage_return line) → IsFirst IsBad (script_lines script) n
so_far_bad IsBad script rest line next number n calls h first place bad =
    let before = h.place in
    record {
      before = h.before;
      line = strip_carriage_return line;
      after = script_lines next;
      calls = calls;
      whole = h.whole ∙ ap (λ v. h.before ++ v) (first_stripped rest line next first);
      place = omega (arith, place, before);
      fine = h.fine;
      bad = bad;
    }

-- all is read
pub so_far_all : (script rest : List ℕ) (number : ℕ) (calls : List (ℕ × Request)) → IsSoFar script rest number calls → length rest ≡ 0
    → AllAsk (script_lines script) calls
so_far_all script [] number calls h empty =
    let P : List (List ℕ) → Type 0 = λ v. AllAsk v calls in
    subst P (sym (h.whole ∙ append-nil h.before)) h.fine
so_far_all script (b ∷ rest) number calls h empty = absurd (omega arith)

-- the first line of the rest isn't read, for this reason
pub so_far_fault : (serves : Request → Bool) (script rest line next : List ℕ) (number : ℕ) (calls : List (ℕ × Request)) (e : ScriptError)
    → IsSoFar script rest number calls → AreServed serves calls → lines_of rest ≡ line ∷ lines_of next
    → IsFaultOf serves (strip_carriage_return line) (number + 1) e → IsServiceFault serves (script_lines script) e
unfolding so_far_bad
so_far_fault serves script rest line next number calls (NotRequest n) h served first fault =
    record { first = so_far_bad (IsRefused serves) script rest line next number n calls h first fault.0 fault.1; served = served }
so_far_fault serves script rest line next number calls (Client n) h served first fault =
    record { first = so_far_bad NamesFarClient script rest line next number n calls h first fault.0 fault.1; served = served }
so_far_fault serves script rest line next number calls NoMemory h served first fault = tt

-- where every request is served, a line that is refused is no request
pub all_served : (lines : List (List ℕ)) (e : ScriptError) → IsServiceFault (λ request. true) lines e → IsScriptFault lines e
all_served lines (NotRequest n) f = let g = f.first in record {
  before = g.before;
  line = g.line;
  after = g.after;
  calls = g.calls;
  whole = g.whole;
  place = g.place;
  fine = g.fine;
  bad = elim g.bad [ inl none ↦ none | inr asks ↦ absurd (let z = asks.3 in cc) ];
}
all_served lines (Client n) f = f.first
all_served lines NoMemory f = tt

pub all_served_or : {A : Type 0} (lines : List (List ℕ)) (r : Result A ScriptError)
    → IfErr r (IsServiceFault (λ request. true) lines) → IfErr r (IsScriptFault lines)
all_served_or lines (Ok x) f = f
all_served_or lines (Err e) f = all_served lines e f
