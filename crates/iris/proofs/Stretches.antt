-- What stretches of a session do, one after another.
use Rattle.std.proofs.Common.{◌≡◌, ◌⊎◌, inl, inr, ℕ, zero, suc, ◌+◌, ◌≤◌, List, [], ◌∷◌, ◌++◌, length, take, Bool, Option, Some, None, refl, sym, ◌∙◌, ap, subst, arith, append_assoc}
use Rattle.iris_name.specs.declared.note.Answer.{Answer}
use Rattle.iris_name.specs.declared.note.Note.{Note}
use Rattle.iris_name.specs.declared.note.Note.TheVariants.{Call, Got, Put, Dropped}
use Rattle.iris_name.specs.declared.name.Name.{Name}
use Rattle.iris_name.specs.declared.request.Request.{Request}
use Rattle.iris_name.specs.declared.request.Reply.{Reply}
use Rattle.iris_name.specs.declared.request.Reply.TheVariants.{Done}
use Rattle.iris_name.specs.Told.{appended, extended}
use Rattle.iris_history.specs.Answers.{IsFailure}
use Rattle.iris_store.specs.declared.Transfer.{Transfer}
use Rattle.iris_store.specs.declared.Transfer.TheVariants.{Got as GotFrom, Put as PutTo, Dropped as DroppedAt}
use Rattle.iris.specs.Notes.{requests_of, replies_of, transfers_of, AllBy, AnyGetFailed}
use Rattle.iris.specs.Outside.{IsFault}
use Rattle.iris.specs.Said.{Said, saying, saying_all}
use Rattle.iris.specs.Session.{Serves, Stops, IsJudged}

append_nil : {A : Type 0} (xs : List A) → xs ++ [] ≡ xs
append_nil [] = refl
append_nil (x ∷ xs) = ap (λ ys. x ∷ ys) (append_nil xs)

-- with one more is with a list of one more
pub appended_one : {A : Type 0} (old : Option (List A)) (x : A) → appended old x ≡ extended old (x ∷ [])
appended_one None x = refl
appended_one (Some xs) x = refl

pub extended_none : {A : Type 0} (old : Option (List A)) → old ≡ extended old []
extended_none None = refl
extended_none (Some xs) = ap Some (sym (append_nil xs))

pub extended_twice : {A : Type 0} (old : Option (List A)) (xs ys : List A) → extended (extended old xs) ys ≡ extended old (xs ++ ys)
extended_twice None xs ys = refl
extended_twice (Some zs) xs ys = ap Some (append_assoc zs xs ys)

-- two more, one after the other
pub appended_two : {A : Type 0} (old mid new : Option (List A)) (x y : A) → mid ≡ appended old x → new ≡ appended mid y → new ≡ extended old (x ∷ y ∷ [])
appended_two old mid new x y m n =
    n ∙ (ap (λ o. appended o y) (m ∙ appended_one old x) ∙ (appended_one (extended old (x ∷ [])) y ∙ extended_twice old (x ∷ []) (y ∷ [])))

-- one put, told in two ways
pub put_same : (o : Option (List Note)) (a b : ℕ) (n m : Name) (xs ys : List ℕ) (ok : Bool) → a ≡ b → n ≡ m → xs ≡ ys → appended o (Put 1 a n xs ok) ≡ appended o (Put 1 b m ys ok)
put_same o a b n m xs ys ok e f h = ap (λ z. appended o (Put 1 z n xs ok)) e ∙ (ap (λ z. appended o (Put 1 b z xs ok)) f ∙ ap (λ z. appended o (Put 1 b m z ok)) h)

-- a write's stretch
pub write_serves : (old mid new : Option (List Note)) (before after : Option (List Transfer)) (failed failed_now : ℕ) (said said_now : Said)
    (r request : Request) (since : ℕ) (n : Name) (bytes : List ℕ) (ok : Bool)
    → mid ≡ appended old (Call 1 request Done) → new ≡ appended mid (Put 1 since n bytes ok) → after ≡ appended before (PutTo n bytes ok)
    → request ≡ r → said_now ≡ saying said Done → failed ≤ failed_now
    → Serves (r ∷ []) old new before after failed failed_now said said_now
write_serves old mid new before after failed failed_now said said_now r request since n bytes ok m e t q s l = record {
  more = Call 1 request Done ∷ Put 1 since n bytes ok ∷ [];
  notes = appended_two old mid new (Call 1 request Done) (Put 1 since n bytes ok) m e;
  traffic = t ∙ appended_one before (PutTo n bytes ok);
  callers = (refl, (refl, tt));
  calls = ap (λ z. z ∷ []) q;
  replies = s;
  later = l;
  caused = λ h. absurd h;
}

-- the stretch of a read that needs no get
pub read_serves : (old new : Option (List Note)) (before : Option (List Transfer)) (failed : ℕ) (said said_now : Said)
    (r request : Request) (reply : Reply)
    → new ≡ appended old (Call 1 request reply) → request ≡ r → said_now ≡ saying said reply
    → Serves (r ∷ []) old new before before failed failed said said_now
read_serves old new before failed said said_now r request reply e q s = record {
  more = Call 1 request reply ∷ [];
  notes = e ∙ appended_one old (Call 1 request reply);
  traffic = extended_none before;
  callers = (refl, tt);
  calls = ap (λ z. z ∷ []) q;
  replies = s;
  later = omega arith;
  caused = λ h. absurd h;
}

-- the stretch of a read with its get
pub fetch_serves : (old mid new : Option (List Note)) (before after : Option (List Transfer)) (failed failed_now : ℕ) (said said_now : Said)
    (r request : Request) (since : ℕ) (n : Name) (answer : Answer) (reply : Reply)
    → mid ≡ appended old (Got 1 since n answer) → new ≡ appended mid (Call 1 request reply) → after ≡ appended before (GotFrom n answer)
    → request ≡ r → said_now ≡ saying said reply → failed ≤ failed_now → (IsFailure answer → IsFault failed failed_now)
    → Serves (r ∷ []) old new before after failed failed_now said said_now
fetch_serves old mid new before after failed failed_now said said_now r request since n answer reply m e t q s l c = record {
  more = Got 1 since n answer ∷ Call 1 request reply ∷ [];
  notes = appended_two old mid new (Got 1 since n answer) (Call 1 request reply) m e;
  traffic = t ∙ appended_one before (GotFrom n answer);
  callers = (refl, (refl, tt));
  calls = ap (λ z. z ∷ []) q;
  replies = s;
  later = l;
  caused = λ h. elim h [ inl f ↦ c f | inr none ↦ absurd none ];
}

-- the stretch of nothing
pub serves_none : (old : Option (List Note)) (before : Option (List Transfer)) (failed : ℕ) (said said_now : Said) → said_now ≡ said → Serves [] old old before before failed failed said said_now
serves_none old before failed said said_now e = record {
  more = [];
  notes = extended_none old;
  traffic = extended_none before;
  callers = tt;
  calls = refl;
  replies = e;
  later = omega arith;
  caused = λ h. absurd h;
}

-- nothing was done
pub stops_none : (key : List ℕ) (asked : List Request) (old new : Option (List Note)) (before after : Option (List Transfer))
    → new ≡ old → after ≡ before → IsJudged key old → Stops key asked old new before after
stops_none key asked old new before after e t j = record {
  more = [];
  notes = e ∙ extended_none old;
  traffic = t ∙ extended_none before;
  callers = tt;
  served = 0;
  first = refl;
  judged = subst (IsJudged key) (sym e) j;
}

-- a call was entered
pub stops_called : (key : List ℕ) (old new : Option (List Note)) (before after : Option (List Transfer)) (r request : Request) (reply : Reply)
    → new ≡ appended old (Call 1 request reply) → after ≡ before → request ≡ r → IsJudged key new → Stops key (r ∷ []) old new before after
stops_called key old new before after r request reply e t q j = record {
  more = Call 1 request reply ∷ [];
  notes = e ∙ appended_one old (Call 1 request reply);
  traffic = t ∙ extended_none before;
  callers = (refl, tt);
  served = 1;
  first = ap (λ z. z ∷ []) q;
  judged = j;
}

-- a call and its put were noted
pub stops_put : (key : List ℕ) (old mid new : Option (List Note)) (before after : Option (List Transfer)) (r request : Request) (since : ℕ) (n : Name) (bytes : List ℕ) (ok : Bool)
    → mid ≡ appended old (Call 1 request Done) → new ≡ appended mid (Put 1 since n bytes ok) → after ≡ appended before (PutTo n bytes ok) → request ≡ r
    → IsJudged key new → Stops key (r ∷ []) old new before after
stops_put key old mid new before after r request since n bytes ok m e t q j = record {
  more = Call 1 request Done ∷ Put 1 since n bytes ok ∷ [];
  notes = appended_two old mid new (Call 1 request Done) (Put 1 since n bytes ok) m e;
  traffic = t ∙ appended_one before (PutTo n bytes ok);
  callers = (refl, (refl, tt));
  served = 1;
  first = ap (λ z. z ∷ []) q;
  judged = j;
}

-- a get was noted
pub stops_got : (key : List ℕ) (asked : List Request) (old new : Option (List Note)) (before after : Option (List Transfer)) (since : ℕ) (n : Name) (answer : Answer)
    → new ≡ appended old (Got 1 since n answer) → after ≡ appended before (GotFrom n answer) → IsJudged key new → Stops key asked old new before after
stops_got key asked old new before after since n answer e t j = record {
  more = Got 1 since n answer ∷ [];
  notes = e ∙ appended_one old (Got 1 since n answer);
  traffic = t ∙ appended_one before (GotFrom n answer);
  callers = (refl, tt);
  served = 0;
  first = refl;
  judged = j;
}

requests-append : (xs ys : List Note) → requests_of (xs ++ ys) ≡ requests_of xs ++ requests_of ys
requests-append [] ys = refl
requests-append (Call who request reply ∷ xs) ys = ap (λ z. request ∷ z) (requests-append xs ys)
requests-append (Got who since name answer ∷ xs) ys = requests-append xs ys
requests-append (Put who since name bytes ok ∷ xs) ys = requests-append xs ys
requests-append (Dropped who since name ok ∷ xs) ys = requests-append xs ys

pub replies-append : (xs ys : List Note) → replies_of (xs ++ ys) ≡ replies_of xs ++ replies_of ys
replies-append [] ys = refl
replies-append (Call who request reply ∷ xs) ys = ap (λ z. reply ∷ z) (replies-append xs ys)
replies-append (Got who since name answer ∷ xs) ys = replies-append xs ys
replies-append (Put who since name bytes ok ∷ xs) ys = replies-append xs ys
replies-append (Dropped who since name ok ∷ xs) ys = replies-append xs ys

transfers-append : (xs ys : List Note) → transfers_of (xs ++ ys) ≡ transfers_of xs ++ transfers_of ys
transfers-append [] ys = refl
transfers-append (Call who request reply ∷ xs) ys = transfers-append xs ys
transfers-append (Got who since name answer ∷ xs) ys = ap (λ z. GotFrom name answer ∷ z) (transfers-append xs ys)
transfers-append (Put who since name bytes ok ∷ xs) ys = ap (λ z. PutTo name bytes ok ∷ z) (transfers-append xs ys)
transfers-append (Dropped who since name ok ∷ xs) ys = ap (λ z. DroppedAt name ok ∷ z) (transfers-append xs ys)

callers-append : (xs ys : List Note) → AllBy 1 xs → AllBy 1 ys → AllBy 1 (xs ++ ys)
callers-append [] ys a b = b
callers-append (Call who request reply ∷ xs) ys a b = (a.0, callers-append xs ys a.1 b)
callers-append (Got who since name answer ∷ xs) ys a b = (a.0, callers-append xs ys a.1 b)
callers-append (Put who since name bytes ok ∷ xs) ys a b = (a.0, callers-append xs ys a.1 b)
callers-append (Dropped who since name ok ∷ xs) ys a b = (a.0, callers-append xs ys a.1 b)

failed-append : (xs ys : List Note) → AnyGetFailed (xs ++ ys) → AnyGetFailed xs ⊎ AnyGetFailed ys
failed-append [] ys h = inr h
failed-append (Call who request reply ∷ xs) ys h = failed-append xs ys h
failed-append (Got who since name answer ∷ xs) ys (inl h) = inl (inl h)
failed-append (Got who since name answer ∷ xs) ys (inr h) = elim (failed-append xs ys h) [ inl a ↦ inl (inr a) | inr b ↦ inr b ]
failed-append (Put who since name bytes ok ∷ xs) ys h = failed-append xs ys h
failed-append (Dropped who since name ok ∷ xs) ys h = failed-append xs ys h

saying-append : (said : Said) (xs ys : List Reply) → saying_all said (xs ++ ys) ≡ saying_all (saying_all said xs) ys
saying-append said [] ys = refl
saying-append said (x ∷ xs) ys = saying-append (saying said x) xs ys

fault_more : (a b c : ℕ) → IsFault a b → b ≤ c → IsFault a c
fault_more a b c (inl h) le = inl (omega arith)
fault_more a b c (inr h) le = inr (omega arith)

fault_less : (a b c : ℕ) → IsFault b c → a ≤ b → IsFault a c
fault_less a b c (inl h) le = inl (omega arith)
fault_less a b c (inr h) le = inr h

-- one stretch after another
pub serves_more : (asked asked_then : List Request) (old mid new : Option (List Note)) (before between after : Option (List Transfer)) (f g h : ℕ) (said then now : Said)
    → Serves asked old mid before between f g said then → Serves asked_then mid new between after g h then now
    → Serves (asked ++ asked_then) old new before after f h said now
serves_more asked asked_then old mid new before between after f g h said then now a b = record {
  more = a.more ++ b.more;
  notes = b.notes ∙ (ap (λ o. extended o b.more) a.notes ∙ extended_twice old a.more b.more);
  traffic = b.traffic ∙ (ap (λ o. extended o (transfers_of b.more)) a.traffic ∙ (extended_twice before (transfers_of a.more) (transfers_of b.more) ∙ ap (extended before) (sym (transfers-append a.more b.more))));
  callers = callers-append a.more b.more a.callers b.callers;
  calls = requests-append a.more b.more ∙ (ap (λ z. z ++ requests_of b.more) a.calls ∙ ap (λ z. asked ++ z) b.calls);
  replies = b.replies ∙ (ap (λ z. saying_all z (replies_of b.more)) a.replies ∙ (sym (saying-append said (replies_of a.more) (replies_of b.more)) ∙ ap (saying_all said) (sym (replies-append a.more b.more))));
  later = omega (arith, a.later, b.later);
  caused = λ any. elim (failed-append a.more b.more any) [
    | inl one ↦ fault_more f g h (a.caused one) b.later
    | inr two ↦ fault_less f g h (b.caused two) a.later
  ];
}

take_front : (xs ys : List Request) (n : ℕ) → take (length xs + n) (xs ++ ys) ≡ xs ++ take n ys
take_front [] ys n = let e : 0 + n ≡ n = omega arith in ap (λ m. take m ys) e
take_front (x ∷ xs) ys n = let e : length (x ∷ xs) + n ≡ suc (length xs + n) = omega arith in ap (λ m. take m (x ∷ (xs ++ ys))) e ∙ ap (λ z. x ∷ z) (take_front xs ys n)

-- a stretch that stops, after others
pub stops_more : (key : List ℕ) (asked asked_then : List Request) (old mid new : Option (List Note)) (before between after : Option (List Transfer)) (f g : ℕ) (said then : Said)
    → Serves asked old mid before between f g said then → Stops key asked_then mid new between after
    → Stops key (asked ++ asked_then) old new before after
stops_more key asked asked_then old mid new before between after f g said then a b = record {
  more = a.more ++ b.more;
  notes = b.notes ∙ (ap (λ o. extended o b.more) a.notes ∙ extended_twice old a.more b.more);
  traffic = b.traffic ∙ (ap (λ o. extended o (transfers_of b.more)) a.traffic ∙ (extended_twice before (transfers_of a.more) (transfers_of b.more) ∙ ap (extended before) (sym (transfers-append a.more b.more))));
  callers = callers-append a.more b.more a.callers b.callers;
  served = length asked + b.served;
  first = requests-append a.more b.more ∙ (ap (λ z. z ++ requests_of b.more) a.calls ∙ (ap (λ z. asked ++ z) b.first ∙ sym (take_front asked asked_then b.served)));
  judged = b.judged;
}

take_nothing : (n : ℕ) → take {A = Request} n [] ≡ []
take_nothing zero = refl
take_nothing (suc n) = refl

-- what is served once is the first of what is asked
pub stops_first : (key : List ℕ) (r : Request) (rest : List Request) (old new : Option (List Note)) (before after : Option (List Transfer))
    → Stops key (r ∷ []) old new before after → Stops key (r ∷ rest) old new before after
stops_first key r rest old new before after a = by_served a.served a.first where
  by_served : (n : ℕ) → requests_of a.more ≡ take n (r ∷ []) → Stops key (r ∷ rest) old new before after
  by_served zero e = record { more = a.more; notes = a.notes; traffic = a.traffic; callers = a.callers; served = 0; first = e; judged = a.judged }
  by_served (suc n) e = record { more = a.more; notes = a.notes; traffic = a.traffic; callers = a.callers; served = 1; first = e ∙ ap (λ z. r ∷ z) (take_nothing n); judged = a.judged }
