-- What a run's end gives, clause by clause.
use Rattle.std.proofs.Common.{◌≡◌, ◌≢◌, ◌⊎◌, inl, inr, ℕ, suc, ◌+◌, ◌≤◌, ◌<◌, List, [], ◌∷◌, ◌++◌, length, take, Bool, true, false, Option, Some, None, Result, Ok, Err, IfSome, refl, sym, ◌∙◌, ap, subst, arith, IsTrue}
use Rattle.std.specs.Prelude.{◌↔◌}
use Rattle.iris_name.specs.declared.note.Note.{Note}
use Rattle.iris_name.specs.declared.request.Request.{Request}
use Rattle.iris_name.specs.History.{past_of}
use Rattle.iris_name.specs.Hmac.{block_key}
use Rattle.iris_name.specs.Told.{extended}
use Rattle.iris_script.specs.Cuts.{lines_of}
use Rattle.iris_store.specs.declared.Transfer.{Transfer}
use Rattle.iris.specs.declared.top.Stop.{Stop}
use Rattle.iris.specs.declared.top.Stop.TheVariants.{BadWords, BadLine, Unread, Unwritten, TooLong, NoMemory}
use Rattle.iris.specs.Lines.{AllSpell, IsFirstBad, SpellsLine, SpellsNone}
use Rattle.iris.specs.Notes.{replies_of, AnyGetFailed, any_refused, printed}
use Rattle.iris.specs.Outside.{IsFault}
use Rattle.iris.specs.Reading.{HasMoreThan, IsAtMostLeft}
use Rattle.iris.specs.Registers.{BadRegisters, LegalRegisters}
use Rattle.iris.specs.Run.{IsEnd, Ran, status_of, line_of}
use Rattle.iris.specs.Said.{Said}
use Rattle.iris.specs.Top.{IsEmptyLog, IsPrinted, WasRead, WentOn, IsBadOrLegal, HasNoKey, HasBadLine, IsTooLong, IsInForm, IsDoneIfHonest, AnyOther}
use Rattle.iris.specs.Words.{AreWords}
use Rattle.iris.proofs.Runs.{one_key, said_printed, silent_refused, all_more, if_told, judged_told, untouched_judged}
use Rattle.iris.proofs.Refusals.{refused_met}

-- no status above 1 is a printed one
not_printed : (n : ℕ) → IsPrinted (suc (suc n)) → ⊥
not_printed n (inl h) = omega (arith, h)
not_printed n (inr h) = omega (arith, h)

-- the text that was written is the printing of the session's replies
text_told : {words : List (List ℕ)} {left left_now : Option (List ℕ)} {traffic traffic_now : Option (List Transfer)} {failed failed_now : ℕ} {old new : Option (List Note)} {said : Said}
    → Ran words left left_now traffic traffic_now failed failed_now old new said → IsEmptyLog old → (notes : List Note) → new ≡ Some notes
    → said.text ≡ printed 1 (replies_of notes)
text_told {old = old} {new = new} {said = said} r fresh notes e =
    let m = all_more old new r.serves.more notes fresh r.serves.notes e in
    ap (λ s. s.text) r.serves.replies ∙ (said_printed (replies_of r.serves.more) ∙ ap (λ z. printed 1 (replies_of z)) (sym m))

refused_told : {words : List (List ℕ)} {left left_now : Option (List ℕ)} {traffic traffic_now : Option (List Transfer)} {failed failed_now : ℕ} {old new : Option (List Note)} {said : Said}
    → Ran words left left_now traffic traffic_now failed failed_now old new said → IsEmptyLog old → (notes : List Note) → new ≡ Some notes
    → said.refused ≡ any_refused (replies_of notes)
refused_told {old = old} {new = new} {said = said} r fresh notes e =
    let m = all_more old new r.serves.more notes fresh r.serves.notes e in
    ap (λ s. s.refused) r.serves.replies ∙ (silent_refused (replies_of r.serves.more) ∙ ap (λ z. any_refused (replies_of z)) (sym m))

pub printed_end : (words : List (List ℕ)) (left left_now : Option (List ℕ)) (a b : ℕ) (written written_now : Option (List ℕ)) (u v : ℕ) (traffic traffic_now : Option (List Transfer)) (f g : ℕ) (old new : Option (List Note)) (r : Result Bool Stop)
    → IsEmptyLog old → IsEnd words left left_now a b written written_now u v traffic traffic_now f g old new r
    → IsPrinted (status_of r) → IfSome new (λ notes. written_now ≡ extended written (printed 1 (replies_of notes)))
printed_end words left left_now a b written written_now u v traffic traffic_now f g old new (Ok refused) fresh e h = if_told _ new (λ notes told. e.2 ∙ ap (extended written) (text_told e.1 fresh notes told))
printed_end words left left_now a b written written_now u v traffic traffic_now f g old new (Err BadWords) fresh e h = absurd (not_printed 0 h)
printed_end words left left_now a b written written_now u v traffic traffic_now f g old new (Err (BadLine n)) fresh e h = absurd (not_printed 0 h)
printed_end words left left_now a b written written_now u v traffic traffic_now f g old new (Err Unread) fresh e h = absurd (not_printed 1 h)
printed_end words left left_now a b written written_now u v traffic traffic_now f g old new (Err Unwritten) fresh e h = absurd (not_printed 2 h)
printed_end words left left_now a b written written_now u v traffic traffic_now f g old new (Err TooLong) fresh e h = absurd (not_printed 5 h)
printed_end words left left_now a b written written_now u v traffic traffic_now f g old new (Err NoMemory) fresh e h = absurd (not_printed 6 h)

pub refused_end : (words : List (List ℕ)) (left left_now : Option (List ℕ)) (a b : ℕ) (written written_now : Option (List ℕ)) (u v : ℕ) (traffic traffic_now : Option (List Transfer)) (f g : ℕ) (old new : Option (List Note)) (r : Result Bool Stop)
    → IsEmptyLog old → IsEnd words left left_now a b written written_now u v traffic traffic_now f g old new r
    → IsPrinted (status_of r) → IfSome new (λ notes. (status_of r ≡ 1) ↔ IsTrue (any_refused (replies_of notes)))
refused_end words left left_now a b written written_now u v traffic traffic_now f g old new (Ok true) fresh e h = if_told _ new (λ notes told. (λ one. sym (e.3 ∙ refused_told e.1 fresh notes told), λ some. refl))
refused_end words left left_now a b written written_now u v traffic traffic_now f g old new (Ok false) fresh e h = if_told _ new (λ notes told. (λ one. absurd (omega (arith, one)), λ some. absurd (let z = e.3 ∙ (refused_told e.1 fresh notes told ∙ some) in cc)))
refused_end words left left_now a b written written_now u v traffic traffic_now f g old new (Err BadWords) fresh e h = absurd (not_printed 0 h)
refused_end words left left_now a b written written_now u v traffic traffic_now f g old new (Err (BadLine n)) fresh e h = absurd (not_printed 0 h)
refused_end words left left_now a b written written_now u v traffic traffic_now f g old new (Err Unread) fresh e h = absurd (not_printed 1 h)
refused_end words left left_now a b written written_now u v traffic traffic_now f g old new (Err Unwritten) fresh e h = absurd (not_printed 2 h)
refused_end words left left_now a b written written_now u v traffic traffic_now f g old new (Err TooLong) fresh e h = absurd (not_printed 5 h)
refused_end words left left_now a b written written_now u v traffic traffic_now f g old new (Err NoMemory) fresh e h = absurd (not_printed 6 h)

ran_judged : {words : List (List ℕ)} {left left_now : Option (List ℕ)} {traffic traffic_now : Option (List Transfer)} {failed failed_now : ℕ} {old new : Option (List Note)} {said : Said}
    → Ran words left left_now traffic traffic_now failed failed_now old new said → IfSome new (IsBadOrLegal words)
ran_judged {words = words} {new = new} r = if_told _ new (λ notes told. λ master spoken.
    subst (λ k. BadRegisters (block_key k) (past_of (notes ∷ [])) ⊎ LegalRegisters (block_key k) (past_of (notes ∷ []))) (one_key words r.master master r.spoken spoken) (judged_told (block_key r.master) new notes told r.judged))

untouched : (words : List (List ℕ)) (old new : Option (List Note)) → IsEmptyLog old → new ≡ old → IfSome new (IsBadOrLegal words)
untouched words old new fresh e = if_told _ new (λ notes told. λ master spoken. untouched_judged (block_key master) old new notes fresh e told)

pub judged_end : (words : List (List ℕ)) (left left_now : Option (List ℕ)) (a b : ℕ) (written written_now : Option (List ℕ)) (u v : ℕ) (traffic traffic_now : Option (List Transfer)) (f g : ℕ) (old new : Option (List Note)) (r : Result Bool Stop)
    → IsEmptyLog old → IsEnd words left left_now a b written written_now u v traffic traffic_now f g old new r → IfSome new (IsBadOrLegal words)
judged_end words left left_now a b written written_now u v traffic traffic_now f g old new (Ok refused) fresh e = ran_judged e.1
judged_end words left left_now a b written written_now u v traffic traffic_now f g old new (Err Unwritten) fresh e = ran_judged e.1
judged_end words left left_now a b written written_now u v traffic traffic_now f g old new (Err BadWords) fresh e = untouched words old new fresh e.1.no_notes
judged_end words left left_now a b written written_now u v traffic traffic_now f g old new (Err (BadLine n)) fresh e = untouched words old new fresh e.4.no_notes
judged_end words left left_now a b written written_now u v traffic traffic_now f g old new (Err Unread) fresh e = untouched words old new fresh e.2.no_notes
judged_end words left left_now a b written written_now u v traffic traffic_now f g old new (Err TooLong) fresh e = untouched words old new fresh e.2.no_notes
judged_end words left left_now a b written written_now u v traffic traffic_now f g old new (Err NoMemory) fresh e = elim e.2 [
  | inl same ↦ untouched words old new fresh same.0
  | inr short ↦ if_told _ new (λ notes told. λ master spoken.
      subst (λ k. BadRegisters (block_key k) (past_of (notes ∷ [])) ⊎ LegalRegisters (block_key k) (past_of (notes ∷ []))) (one_key words short.master master short.spoken spoken) (judged_told (block_key short.master) new notes told short.stops.judged))
]

pub words_end : (words : List (List ℕ)) (left left_now : Option (List ℕ)) (a b : ℕ) (written written_now : Option (List ℕ)) (u v : ℕ) (traffic traffic_now : Option (List Transfer)) (f g : ℕ) (old new : Option (List Note)) (r : Result Bool Stop)
    → IsEnd words left left_now a b written written_now u v traffic traffic_now f g old new r → ((status_of r ≡ 2) × (line_of r ≡ 0)) ↔ HasNoKey words
words_end words left left_now a b written written_now u v traffic traffic_now f g old new (Ok true) e = (λ h. absurd (omega (arith, h.0)), λ none. absurd (none e.1.master e.1.spoken))
words_end words left left_now a b written written_now u v traffic traffic_now f g old new (Ok false) e = (λ h. absurd (omega (arith, h.0)), λ none. absurd (none e.1.master e.1.spoken))
words_end words left left_now a b written written_now u v traffic traffic_now f g old new (Err Unwritten) e = (λ h. absurd (omega (arith, h.0)), λ none. absurd (none e.1.master e.1.spoken))
words_end words left left_now a b written written_now u v traffic traffic_now f g old new (Err BadWords) e = (λ h. e.0, λ none. (refl, refl))
words_end words left left_now a b written written_now u v traffic traffic_now f g old new (Err (BadLine n)) e = (λ h. absurd (e.2 h.1), λ none. absurd (none e.0.0 e.0.1))
words_end words left left_now a b written written_now u v traffic traffic_now f g old new (Err Unread) e = (λ h. absurd (omega (arith, h.0)), λ none. absurd (none e.0.0 e.0.1))
words_end words left left_now a b written written_now u v traffic traffic_now f g old new (Err TooLong) e = (λ h. absurd (omega (arith, h.0)), λ none. absurd (none e.0.0 e.0.1))
words_end words left left_now a b written written_now u v traffic traffic_now f g old new (Err NoMemory) e = (λ h. absurd (omega (arith, h.0)), λ none. absurd (none e.0.0 e.0.1))

pub cut_end : (words : List (List ℕ)) (left left_now : Option (List ℕ)) (a b : ℕ) (written written_now : Option (List ℕ)) (u v : ℕ) (traffic traffic_now : Option (List Transfer)) (f g : ℕ) (old new : Option (List Note)) (r : Result Bool Stop)
    → IsEmptyLog old → IsEnd words left left_now a b written written_now u v traffic traffic_now f g old new r
    → status_of r ≡ 4 → IfSome new (λ notes. (n : ℕ) × (written_now ≡ extended written (take n (printed 1 (replies_of notes)))))
cut_end words left left_now a b written written_now u v traffic traffic_now f g old new (Err Unwritten) fresh e h = if_told _ new (λ notes told. (e.2.0, e.2.1 ∙ ap (λ z. extended written (take e.2.0 z)) (text_told e.1 fresh notes told)))
cut_end words left left_now a b written written_now u v traffic traffic_now f g old new (Ok true) fresh e h = absurd (omega (arith, h))
cut_end words left left_now a b written written_now u v traffic traffic_now f g old new (Ok false) fresh e h = absurd (omega (arith, h))
cut_end words left left_now a b written written_now u v traffic traffic_now f g old new (Err BadWords) fresh e h = absurd (omega (arith, h))
cut_end words left left_now a b written written_now u v traffic traffic_now f g old new (Err (BadLine n)) fresh e h = absurd (omega (arith, h))
cut_end words left left_now a b written written_now u v traffic traffic_now f g old new (Err Unread) fresh e h = absurd (omega (arith, h))
cut_end words left left_now a b written written_now u v traffic traffic_now f g old new (Err TooLong) fresh e h = absurd (omega (arith, h))
cut_end words left left_now a b written written_now u v traffic traffic_now f g old new (Err NoMemory) fresh e h = absurd (omega (arith, h))

-- lines that all spell have no first that spells none
spell_apart : (lines before rest : List (List ℕ)) (line : List ℕ) (requests : List Request) → AllSpell lines requests → lines ≡ before ++ line ∷ rest → SpellsNone line → ⊥
spell_apart lines [] rest line [] a e none = absurd (let b = subst (λ z. AllSpell z []) e a in b)
spell_apart lines [] rest line (request ∷ requests) a e none = let b = subst (λ z. AllSpell z (request ∷ requests)) e a in none request b.0
spell_apart lines (x ∷ before) rest line [] a e none = let b = subst (λ z. AllSpell z []) e a in b
spell_apart lines (x ∷ before) rest line (request ∷ requests) a e none = let b = subst (λ z. AllSpell z (request ∷ requests)) e a in spell_apart (before ++ line ∷ rest) before rest line requests b.1 refl none

-- over an honest outside a well-formed run ends by 0 or 8, unless its history is bad
honest_end : (words : List (List ℕ)) (left left_now : Option (List ℕ)) (a b : ℕ) (written written_now : Option (List ℕ)) (u v : ℕ) (traffic traffic_now : Option (List Transfer)) (f g : ℕ) (old new : Option (List Note)) (r : Result Bool Stop)
    → IsEmptyLog old → IsEnd words left left_now a b written written_now u v traffic traffic_now f g old new r
    → (master bytes : List ℕ) (requests : List Request) (notes : List Note) → AreWords words master → left ≡ Some bytes → length bytes ≤ 16777216 → AllSpell (lines_of bytes) requests → new ≡ Some notes
    → (IsFault a b → ⊥) → (IsFault u v → ⊥) → (IsFault f g → ⊥) → (AnyOther (past_of (notes ∷ [])) → ⊥)
    → (status_of r ≡ 0) ⊎ (status_of r ≡ 8) ⊎ BadRegisters (block_key master) (past_of (notes ∷ []))
honest_end words left left_now a b written written_now u v traffic traffic_now f g old new (Ok false) fresh e master bytes requests notes spoken is short spell told x y z w = inl refl
honest_end words left left_now a b written written_now u v traffic traffic_now f g old new (Ok true) fresh e master bytes requests notes spoken is short spell told x y z w =
    let m = all_more old new e.1.serves.more notes fresh e.1.serves.notes told in
    elim (judged_told (block_key e.1.master) new notes told e.1.judged) [
      | inl bad ↦ inr (inr (subst (λ k. BadRegisters (block_key k) (past_of (notes ∷ []))) (one_key words e.1.master master e.1.spoken spoken) bad))
      | inr legal ↦ elim (refused_met (block_key e.1.master) notes legal (sym (e.3 ∙ refused_told e.1 fresh notes told))) [
        | inl failed ↦ absurd (z (e.1.serves.caused (subst AnyGetFailed m failed)))
        | inr other ↦ absurd (w other)
      ]
    ]
honest_end words left left_now a b written written_now u v traffic traffic_now f g old new (Err BadWords) fresh e master bytes requests notes spoken is short spell told x y z w = absurd (e.0 master spoken)
honest_end words left left_now a b written written_now u v traffic traffic_now f g old new (Err (BadLine n)) fresh e master bytes requests notes spoken is short spell told x y z w =
    let bad = e.1 bytes is in absurd (spell_apart (lines_of bytes) bad.before bad.after bad.line requests spell bad.whole bad.none)
honest_end words left left_now a b written written_now u v traffic traffic_now f g old new (Err Unread) fresh e master bytes requests notes spoken is short spell told x y z w = absurd (x e.1)
honest_end words left left_now a b written written_now u v traffic traffic_now f g old new (Err Unwritten) fresh e master bytes requests notes spoken is short spell told x y z w = absurd (y e.3)
honest_end words left left_now a b written written_now u v traffic traffic_now f g old new (Err TooLong) fresh e master bytes requests notes spoken is short spell told x y z w =
    let more : 16777216 < length bytes = subst (λ l. HasMoreThan l 16777216) is e.1 in absurd (omega (arith, more, short))
honest_end words left left_now a b written written_now u v traffic traffic_now f g old new (Err NoMemory) fresh e master bytes requests notes spoken is short spell told x y z w = inr (inl refl)

-- what is within the limit isn't above it
above_limit : (left : Option (List ℕ)) (bytes : List ℕ) → left ≡ Some bytes → IsAtMostLeft left 16777216 → 16777216 < length bytes → ⊥
above_limit left bytes is within more = let w : length bytes ≤ 16777216 = subst (λ l. IsAtMostLeft l 16777216) is within in omega (arith, w, more)

if_left : (P : List ℕ → Type 0) (left : Option (List ℕ)) → ((bytes : List ℕ) → left ≡ Some bytes → P bytes) → IfSome left P
if_left P None f = tt
if_left P (Some bytes) f = f bytes refl

-- the bytes of a script whose lines were all served have no first bad line
all_spelled : {words : List (List ℕ)} {left left_now : Option (List ℕ)} {traffic traffic_now : Option (List Transfer)} {failed failed_now : ℕ} {old new : Option (List Note)} {said : Said}
    → Ran words left left_now traffic traffic_now failed failed_now old new said → (bytes : List ℕ) (n : ℕ) → left ≡ Some bytes → IsFirstBad (lines_of bytes) n → ⊥
all_spelled {left = left} {left_now = left_now} r bytes n is bad =
    let read = subst (λ l. WasRead l left_now r.requests) is r.read in
    spell_apart (lines_of bytes) bad.before bad.after bad.line r.requests read.1 bad.whole bad.none

-- fronts that all spell, each up to a line that spells none, are equally long
fronts_alike : (before front after rest : List (List ℕ)) (line other : List ℕ) (requests asked : List Request) → before ++ line ∷ after ≡ front ++ other ∷ rest
    → AllSpell before requests → SpellsNone line → AllSpell front asked → SpellsNone other → length before ≡ length front
fronts_alike [] [] after rest line other requests asked e spelled none spells lacks = refl
fronts_alike [] (x ∷ front) after rest line other requests [] e spelled none spells lacks = absurd spells
fronts_alike [] (x ∷ front) after rest line other requests (q ∷ asked) e spelled none spells lacks =
    let same : x ≡ line = cc in absurd (none q (subst (λ l. SpellsLine l q) same spells.0))
fronts_alike (x ∷ before) [] after rest line other [] asked e spelled none spells lacks = absurd spelled
fronts_alike (x ∷ before) [] after rest line other (q ∷ requests) asked e spelled none spells lacks =
    let same : x ≡ other = cc in absurd (lacks q (subst (λ l. SpellsLine l q) same spelled.0))
fronts_alike (x ∷ before) (y ∷ front) after rest line other [] asked e spelled none spells lacks = absurd spelled
fronts_alike (x ∷ before) (y ∷ front) after rest line other (q ∷ requests) [] e spelled none spells lacks = absurd spells
fronts_alike (x ∷ before) (y ∷ front) after rest line other (q ∷ requests) (z ∷ asked) e spelled none spells lacks =
    let tails : before ++ line ∷ after ≡ front ++ other ∷ rest = cc in
    ap suc (fronts_alike before front after rest line other requests asked tails spelled.1 none spells.1 lacks)

-- lines have one first bad line
one_bad : (lines : List (List ℕ)) (m n : ℕ) → IsFirstBad lines m → IsFirstBad lines n → m ≡ n
one_bad lines m n x y =
    let same = fronts_alike x.before y.before x.after y.after x.line y.line x.requests y.requests (sym x.whole ∙ y.whole) x.spelled x.none y.spelled y.none in
    x.place ∙ (ap (λ k. k + 1) same ∙ sym y.place)

-- the limit, of the bytes that are told
within_told : (left : Option (List ℕ)) (bytes : List ℕ) → left ≡ Some bytes → IsAtMostLeft left 16777216 → length bytes ≤ 16777216
within_told left bytes is within = subst (λ l. IsAtMostLeft l 16777216) is within

over_told : (left : Option (List ℕ)) (bytes : List ℕ) → left ≡ Some bytes → HasMoreThan left 16777216 → 16777216 < length bytes
over_told left bytes is more = subst (λ l. HasMoreThan l 16777216) is more

-- a run ends at line n exactly where that is the first bad one
pub bad_line_end : (words : List (List ℕ)) (left left_now : Option (List ℕ)) (a b : ℕ) (written written_now : Option (List ℕ)) (u v : ℕ) (traffic traffic_now : Option (List Transfer)) (f g : ℕ) (old new : Option (List Note)) (r : Result Bool Stop)
    → IsEnd words left left_now a b written written_now u v traffic traffic_now f g old new r
    → IfSome left (λ bytes. (n : ℕ) → n ≢ 0 → WentOn (status_of r) → ((status_of r ≡ 2) × (line_of r ≡ n)) ↔ HasBadLine words bytes n)
bad_line_end words left left_now a b written written_now u v traffic traffic_now f g old new (Ok true) e = if_left _ left (λ bytes is n some on. (λ h. absurd (omega (arith, h.0)), λ bad. absurd (all_spelled e.1 bytes n is bad.first)))
bad_line_end words left left_now a b written written_now u v traffic traffic_now f g old new (Ok false) e = if_left _ left (λ bytes is n some on. (λ h. absurd (omega (arith, h.0)), λ bad. absurd (all_spelled e.1 bytes n is bad.first)))
bad_line_end words left left_now a b written written_now u v traffic traffic_now f g old new (Err Unwritten) e = if_left _ left (λ bytes is n some on. (λ h. absurd (omega (arith, h.0)), λ bad. absurd (all_spelled e.1 bytes n is bad.first)))
bad_line_end words left left_now a b written written_now u v traffic traffic_now f g old new (Err BadWords) e = if_left _ left (λ bytes is n some on. (λ h. absurd (some (sym h.1)), λ bad. absurd (e.0 bad.key.0 bad.key.1)))
bad_line_end words left left_now a b written written_now u v traffic traffic_now f g old new (Err (BadLine m)) e = if_left _ left (λ bytes is n some on.
    (λ h. record { key = e.0; limit = within_told left bytes is e.3; first = subst (IsFirstBad (lines_of bytes)) h.1 (e.1 bytes is) }, λ bad. (refl, one_bad (lines_of bytes) m n (e.1 bytes is) bad.first)))
bad_line_end words left left_now a b written written_now u v traffic traffic_now f g old new (Err Unread) e = if_left _ left (λ bytes is n some on. (λ h. absurd (omega (arith, h.0)), λ bad. absurd (on.0 refl)))
bad_line_end words left left_now a b written written_now u v traffic traffic_now f g old new (Err TooLong) e = if_left _ left (λ bytes is n some on.
    (λ h. absurd (omega (arith, h.0)), λ bad. absurd (let over = over_told left bytes is e.1 in let limit = bad.limit in omega (arith, over, limit))))
bad_line_end words left left_now a b written written_now u v traffic traffic_now f g old new (Err NoMemory) e = if_left _ left (λ bytes is n some on. (λ h. absurd (omega (arith, h.0)), λ bad. absurd (on.1 refl)))

-- no other end speaks of a line
pub other_line_end : (r : Result Bool Stop) → status_of r ≢ 2 → line_of r ≡ 0
other_line_end (Ok refused) h = refl
other_line_end (Err BadWords) h = refl
other_line_end (Err (BadLine n)) h = absurd (h refl)
other_line_end (Err Unread) h = refl
other_line_end (Err Unwritten) h = refl
other_line_end (Err TooLong) h = refl
other_line_end (Err NoMemory) h = refl

-- a run ends at the limit exactly where the script is above it
pub long_end : (words : List (List ℕ)) (left left_now : Option (List ℕ)) (a b : ℕ) (written written_now : Option (List ℕ)) (u v : ℕ) (traffic traffic_now : Option (List Transfer)) (f g : ℕ) (old new : Option (List Note)) (r : Result Bool Stop)
    → IsEnd words left left_now a b written written_now u v traffic traffic_now f g old new r
    → IfSome left (λ bytes. WentOn (status_of r) → (status_of r ≡ 7) ↔ IsTooLong words bytes)
long_end words left left_now a b written written_now u v traffic traffic_now f g old new (Ok true) e = if_left _ left (λ bytes is on. (λ h. absurd (omega (arith, h)), λ long. absurd (above_limit left bytes is e.1.limit long.over)))
long_end words left left_now a b written written_now u v traffic traffic_now f g old new (Ok false) e = if_left _ left (λ bytes is on. (λ h. absurd (omega (arith, h)), λ long. absurd (above_limit left bytes is e.1.limit long.over)))
long_end words left left_now a b written written_now u v traffic traffic_now f g old new (Err Unwritten) e = if_left _ left (λ bytes is on. (λ h. absurd (omega (arith, h)), λ long. absurd (above_limit left bytes is e.1.limit long.over)))
long_end words left left_now a b written written_now u v traffic traffic_now f g old new (Err BadWords) e = if_left _ left (λ bytes is on. (λ h. absurd (omega (arith, h)), λ long. absurd (e.0 long.key.0 long.key.1)))
long_end words left left_now a b written written_now u v traffic traffic_now f g old new (Err (BadLine n)) e = if_left _ left (λ bytes is on. (λ h. absurd (omega (arith, h)), λ long. absurd (above_limit left bytes is e.3 long.over)))
long_end words left left_now a b written written_now u v traffic traffic_now f g old new (Err Unread) e = if_left _ left (λ bytes is on. (λ h. absurd (omega (arith, h)), λ long. absurd (on.0 refl)))
long_end words left left_now a b written written_now u v traffic traffic_now f g old new (Err TooLong) e = if_left _ left (λ bytes is on. (λ h. record { key = e.0; over = over_told left bytes is e.1 }, λ long. refl))
long_end words left left_now a b written written_now u v traffic traffic_now f g old new (Err NoMemory) e = if_left _ left (λ bytes is on. (λ h. absurd (omega (arith, h)), λ long. absurd (on.1 refl)))

-- a script in form, with its bytes and its requests
formed : (left : Option (List ℕ)) → IsInForm left → (bytes : List ℕ) × (left ≡ Some bytes) × (length bytes ≤ 16777216) × (requests : List Request) × AllSpell (lines_of bytes) requests
formed None form = absurd form
formed (Some bytes) form = (bytes, refl, form.0, form.1, form.2)

pub honest_told : (words : List (List ℕ)) (left left_now : Option (List ℕ)) (a b : ℕ) (written written_now : Option (List ℕ)) (u v : ℕ) (traffic traffic_now : Option (List Transfer)) (f g : ℕ) (old new : Option (List Note)) (r : Result Bool Stop)
    → IsEmptyLog old → IsEnd words left left_now a b written written_now u v traffic traffic_now f g old new r
    → (master : List ℕ) → AreWords words master → IsInForm left → ¬ IsFault a b → ¬ IsFault u v → ¬ IsFault f g
    → IfSome new (IsDoneIfHonest master (status_of r))
honest_told words left left_now a b written written_now u v traffic traffic_now f g old new r fresh e master spoken form x y z = let h = formed left form in if_told _ new (λ notes told. λ w.
    honest_end words left left_now a b written written_now u v traffic traffic_now f g old new r fresh e master h.0 h.3 notes spoken h.1 h.2 h.4 told x y z w)
