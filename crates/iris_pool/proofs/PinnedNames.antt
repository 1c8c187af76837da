-- Pins of callers, name by name.
use Rattle.std.proofs.Common.{◌≡◌, ◌≢◌, ◌⊎◌, inl, inr, ◌||◌, ◌&&◌, ◌+◌, ◌≤◌, ◌==◌, ◌^◌, ℕ, Bool, true, false, List, take, Option, Some, None, refl, ap, sym, ◌∙◌, subst, arith, true≢false, slice_get, length, nat_lt}
use Rattle.std.specs.Prelude.{bit_or}
use Rattle.std.specs.Option.{option_map_or}
use Rattle.std.specs.List.{list_any}
use Rattle.std.proofs.lemmas.Bool.{cases_lt, lt-ltb, le-ltb}
use Rattle.std.proofs.lemmas.Bool.Decides.{eqb_tells}
use Rattle.std.proofs.lemmas.List.{take_all}
use Rattle.std.proofs.lemmas.Option.{slice_get_within}
use Rattle.iris_blocks.specs.declared.held.PageHeld.{PageHeld}
use Rattle.iris_blocks.specs.Held.{pinned_page}
use Rattle.iris_blocks.specs.Paged.{Paged, PageUpdates, held_page}
use Rattle.iris_cache.specs.declared.held.Held.{Held}
use Rattle.iris_cache.specs.Held.{pinned_node}
use Rattle.iris_cache.specs.Resident.{Resident, Updates, held_node, map_if}
use Rattle.iris_cache.proofs.Drafts.{more-key}
use Rattle.iris_desk.specs.AtDesk.{DeskState, keeps_name}
use Rattle.iris_desk.specs.AtDesks.{DesksState, AreDesksSound, desk_at, keeps_for}
use Rattle.iris_invariant.specs.Cells.{has_pin}
use Rattle.iris_invariant.proofs.Pins.{pinned_elsewhere, pinned_here}
use Rattle.iris_name.specs.Names.{same_name}
use Rattle.iris_name.specs.NameLaws.{same_name_equiv, same_name-true}
use Rattle.iris_name.specs.declared.name.Name.{Name}
use Rattle.iris_pool.specs.Filing.{GetsPagePins, GetsPins, PinsKept}

or_false : (b : Bool) → b ≡ (b || false)
or_false true = refl
or_false false = refl

or_true : (b : Bool) → true ≡ (b || true)
or_true true = refl
or_true false = refl

or_or : (a b c : Bool) → ((a || b) || c) ≡ (a || (b || c))
or_or true b c = refl
or_or false b c = refl

-- ---- what may be held and its pins

gets_then : (f g : ℕ → Bool) (a b c : Option Held) → GetsPins f a b → GetsPins g b c → GetsPins (λ w. f w || g w) a c
gets_then f g None None None m n = tt
gets_then f g None None (Some z) m n = absurd n
gets_then f g None (Some y) c m n = absurd m
gets_then f g (Some x) None c m n = absurd m
gets_then f g (Some x) (Some y) None m n = absurd n
gets_then f g (Some x) (Some y) (Some z) m n = (n.0 ∙ ap (λ (h : Held). record h { pins = z.pins }) m.0, λ w. n.1 w ∙ ap (λ b. b || g w) (m.1 w) ∙ or_or (has_pin w x.pins) (f w) (g w))

page_gets_then : (f g : ℕ → Bool) (a b c : Option PageHeld) → GetsPagePins f a b → GetsPagePins g b c → GetsPagePins (λ w. f w || g w) a c
page_gets_then f g None None None m n = tt
page_gets_then f g None None (Some z) m n = absurd n
page_gets_then f g None (Some y) c m n = absurd m
page_gets_then f g (Some x) None c m n = absurd m
page_gets_then f g (Some x) (Some y) None m n = absurd n
page_gets_then f g (Some x) (Some y) (Some z) m n = (n.0 ∙ ap (λ (h : PageHeld). record h { pins = z.pins }) m.0, λ w. n.1 w ∙ ap (λ b. b || g w) (m.1 w) ∙ or_or (has_pin w x.pins) (f w) (g w))

gets_as : (f g : ℕ → Bool) (a b : Option Held) → ((w : ℕ) → f w ≡ g w) → GetsPins f a b → GetsPins g a b
gets_as f g None None e m = tt
gets_as f g None (Some y) e m = absurd m
gets_as f g (Some x) None e m = absurd m
gets_as f g (Some x) (Some y) e m = (m.0, λ w. m.1 w ∙ ap (λ b. has_pin w x.pins || b) (e w))

page_gets_as : (f g : ℕ → Bool) (a b : Option PageHeld) → ((w : ℕ) → f w ≡ g w) → GetsPagePins f a b → GetsPagePins g a b
page_gets_as f g None None e m = tt
page_gets_as f g None (Some y) e m = absurd m
page_gets_as f g (Some x) None e m = absurd m
page_gets_as f g (Some x) (Some y) e m = (m.0, λ w. m.1 w ∙ ap (λ b. has_pin w x.pins || b) (e w))

gets_none : (o : Option Held) → GetsPins (λ w. false) o o
gets_none None = tt
gets_none (Some h) = (refl, λ w. or_false (has_pin w h.pins))

page_gets_none : (o : Option PageHeld) → GetsPagePins (λ w. false) o o
page_gets_none None = tt
page_gets_none (Some h) = (refl, λ w. or_false (has_pin w h.pins))

one_pin : (who w pins : ℕ) → has_pin w (bit_or pins (2 ^ who)) ≡ (has_pin w pins || (w == who))
one_pin who w pins = by (eqb_tells w who) where
  by : (((w == who) ≡ true) × (w ≡ who)) ⊎ (((w == who) ≡ false) × (w ≢ who)) → has_pin w (bit_or pins (2 ^ who)) ≡ (has_pin w pins || (w == who))
  by (inl h) = ap (λ v. has_pin v (bit_or pins (2 ^ who))) h.1 ∙ pinned_here who pins ∙ or_true (has_pin w pins) ∙ ap (λ b. has_pin w pins || b) (sym h.0)
  by (inr h) = pinned_elsewhere who w pins h.1 ∙ or_false (has_pin w pins) ∙ ap (λ b. has_pin w pins || b) (sym h.0)

gets_one : (s : Bool) (who : ℕ) (o : Option Held) → GetsPins (λ w. s && (w == who)) o (map_if s (pinned_node who) o)
gets_one true who None = tt
gets_one true who (Some h) = (refl, λ w. one_pin who w h.pins)
gets_one false who o = gets_none o

page_gets_one : (s : Bool) (who : ℕ) (o : Option PageHeld) → GetsPagePins (λ w. s && (w == who)) o (map_if s (pinned_page who) o)
page_gets_one true who None = tt
page_gets_one true who (Some h) = (refl, λ w. one_pin who w h.pins)
page_gets_one false who o = page_gets_none o

-- ---- all names

-- a name that isn't held gets nothing
gets_no : (g : Name → Option Held) (n : Name) (who : ℕ) → g n ≡ None → (q : Name) → GetsPins (λ w. same_name q n && (w == who)) (g q) (g q)
gets_no g n who none q = by (same_name q n) refl where
  by : (s : Bool) → same_name q n ≡ s → GetsPins (λ w. s && (w == who)) (g q) (g q)
  by true s = subst (λ o. GetsPins (λ w. w == who) o o) (sym (ap g (same_name-true q n s) ∙ none)) tt
  by false s = gets_none (g q)

page_gets_no : (g : Name → Option PageHeld) (n : Name) (who : ℕ) → g n ≡ None → (q : Name) → GetsPagePins (λ w. same_name q n && (w == who)) (g q) (g q)
page_gets_no g n who none q = by (same_name q n) refl where
  by : (s : Bool) → same_name q n ≡ s → GetsPagePins (λ w. s && (w == who)) (g q) (g q)
  by true s = subst (λ o. GetsPagePins (λ w. w == who) o o) (sym (ap g (same_name-true q n s) ∙ none)) tt
  by false s = page_gets_none (g q)

abbrev pub pin_of : Name → ℕ → ℕ → Name → Bool
pin_of n who w q = same_name q n && (w == who)

pub pins_nothing : (c : Resident) (b : Paged) (n : Name) (who : ℕ) → held_node c n ≡ None → held_page b n ≡ None → PinsKept (pin_of n who) c c b b
pins_nothing c b n who none no_page = record { nodes = gets_no (held_node c) n who none; pages = page_gets_no (held_page b) n who no_page; room = refl; page_room = refl }

pub pins_a_node : (c e : Resident) (b : Paged) (n : Name) (who : ℕ) → Updates c e n (pinned_node who) → e.room ≡ c.room → held_page b n ≡ None → PinsKept (pin_of n who) c e b b
pins_a_node c e b n who up room no_page = record {
  nodes = λ q. subst (λ o. GetsPins (λ w. same_name q n && (w == who)) (held_node c q) o) (sym (up q))
      (subst (λ s. GetsPins (λ w. s && (w == who)) (held_node c q) (map_if (same_name n q) (pinned_node who) (held_node c q))) (same_name_equiv.symm n q) (gets_one (same_name n q) who (held_node c q)));
  pages = page_gets_no (held_page b) n who no_page;
  room = room;
  page_room = refl;
}

pub pins_a_page : (c : Resident) (b f : Paged) (n : Name) (who : ℕ) → PageUpdates b f n (pinned_page who) → f.room ≡ b.room → held_node c n ≡ None → PinsKept (pin_of n who) c c b f
pins_a_page c b f n who up room none = record {
  nodes = gets_no (held_node c) n who none;
  pages = λ q. subst (λ o. GetsPagePins (λ w. same_name q n && (w == who)) (held_page b q) o) (sym (up q))
      (subst (λ s. GetsPagePins (λ w. s && (w == who)) (held_page b q) (map_if (same_name n q) (pinned_page who) (held_page b q))) (same_name_equiv.symm n q) (page_gets_one (same_name n q) who (held_page b q)));
  room = refl;
  page_room = room;
}

pub pins_none : (c : Resident) (b : Paged) → PinsKept (λ w q. false) c c b b
pins_none c b = record { nodes = λ q. gets_none (held_node c q); pages = λ q. page_gets_none (held_page b q); room = refl; page_room = refl }

pub pins_as : (f g : ℕ → Name → Bool) (c e : Resident) (a b : Paged) → ((w : ℕ) (q : Name) → f w q ≡ g w q) → PinsKept f c e a b → PinsKept g c e a b
pins_as f g c e a b same p = record {
  nodes = λ q. gets_as (λ w. f w q) (λ w. g w q) (held_node c q) (held_node e q) (λ w. same w q) (p.nodes q);
  pages = λ q. page_gets_as (λ w. f w q) (λ w. g w q) (held_page a q) (held_page b q) (λ w. same w q) (p.pages q);
  room = p.room;
  page_room = p.page_room;
}

pub pins_then : (f g : ℕ → Name → Bool) (c d e : Resident) (a b z : Paged) → PinsKept f c d a b → PinsKept g d e b z → PinsKept (λ w q. f w q || g w q) c e a z
pins_then f g c d e a b z m n = record {
  nodes = λ q. gets_then (λ w. f w q) (λ w. g w q) (held_node c q) (held_node d q) (held_node e q) (m.nodes q) (n.nodes q);
  pages = λ q. page_gets_then (λ w. f w q) (λ w. g w q) (held_page a q) (held_page b q) (held_page z q) (m.pages q) (n.pages q);
  room = n.room ∙ m.room;
  page_room = n.page_room ∙ m.page_room;
}

-- ---- one name more

pub pins_more : (ks : List Name) (i : ℕ) (n : Name) (who : ℕ) (c d e : Resident) (a b z : Paged) → slice_get ks i ≡ Some n → PinsKept (λ w q. list_any (same_name q) (take i ks) && (w == who)) c d a b → PinsKept (pin_of n who) d e b z
    → PinsKept (λ w q. list_any (same_name q) (take (i + 1) ks) && (w == who)) c e a z
pins_more ks i n who c d e a b z at m o = pins_as (λ w q. (list_any (same_name q) (take i ks) && (w == who)) || (same_name q n && (w == who))) (λ w q. list_any (same_name q) (take (i + 1) ks) && (w == who)) c e a z
    (λ w q. both (list_any (same_name q) (take i ks)) (same_name q n) (w == who) ∙ ap (λ k. k && (w == who)) (sym (more-key ks i n q at)))
    (pins_then (λ w q. list_any (same_name q) (take i ks) && (w == who)) (pin_of n who) c d e a b z m o)
  where
    both : (x y s : Bool) → ((x && s) || (y && s)) ≡ ((x || y) && s)
    both true true true = refl
    both true true false = refl
    both true false true = refl
    both true false false = refl
    both false y s = refl

pub pins_all : (ks : List Name) (i who : ℕ) (c e : Resident) (a b : Paged) → length ks ≤ i → PinsKept (λ w q. list_any (same_name q) (take i ks) && (w == who)) c e a b → PinsKept (λ w q. list_any (same_name q) ks && (w == who)) c e a b
pins_all ks i who c e a b le m = pins_as (λ w q. list_any (same_name q) (take i ks) && (w == who)) (λ w q. list_any (same_name q) ks && (w == who)) c e a b (λ w q. ap (λ k. list_any (same_name q) k && (w == who)) (take_all i ks le)) m

-- ---- one caller more

pub keeps_at : (d : DesksState) (who : ℕ) (desk : DeskState) (q : Name) → desk_at d who ≡ Some desk → keeps_for d who q ≡ list_any (same_name q) desk.kept
keeps_at d who desk q at = ap (λ o. option_map_or (λ (x : DeskState). keeps_name x q) o false) at

pub pins_caller : (d : DesksState) (who : ℕ) (desk : DeskState) (c x e : Resident) (a b z : Paged) → desk_at d who ≡ Some desk → PinsKept (λ w q. nat_lt w who && keeps_for d w q) c x a b
    → PinsKept (λ w q. list_any (same_name q) desk.kept && (w == who)) x e b z → PinsKept (λ w q. nat_lt w (who + 1) && keeps_for d w q) c e a z
pins_caller d who desk c x e a b z at m o = pins_as (λ w q. (nat_lt w who && keeps_for d w q) || (list_any (same_name q) desk.kept && (w == who))) (λ w q. nat_lt w (who + 1) && keeps_for d w q) c e a z
    (λ w q. by w q (eqb_tells w who))
    (pins_then (λ w q. nat_lt w who && keeps_for d w q) (λ w q. list_any (same_name q) desk.kept && (w == who)) c x e a b z m o)
  where
    here : (lt k : Bool) → lt ≡ false → ((lt && k) || (k && true)) ≡ k
    here true k e = absurd (true≢false e)
    here false true e = refl
    here false false e = refl

    there : (k b : Bool) → (k || (b && false)) ≡ k
    there true b = refl
    there false true = refl
    there false false = refl

    more : (w : ℕ) → w ≢ who → nat_lt w who ≡ nat_lt w (who + 1)
    more w ne = elim (cases_lt w who) [
      | inl lt ↦ lt-ltb w who lt ∙ sym (lt-ltb w (who + 1) (omega (arith, lt)))
      | inr ge ↦ le-ltb w who ge ∙ sym (le-ltb w (who + 1) (elim (cases_lt who w) [ inl lt ↦ omega (arith, lt) | inr le ↦ absurd (ne (omega (arith, ge, le))) ]))
    ]

    by : (w : ℕ) (q : Name) → (((w == who) ≡ true) × (w ≡ who)) ⊎ (((w == who) ≡ false) × (w ≢ who)) → ((nat_lt w who && keeps_for d w q) || (list_any (same_name q) desk.kept && (w == who))) ≡ (nat_lt w (who + 1) && keeps_for d w q)
    by w q (inl h) =
        let k : list_any (same_name q) desk.kept ≡ keeps_for d w q = sym (ap (λ v. keeps_for d v q) h.1 ∙ keeps_at d who desk q at) in
        let lt : nat_lt w who ≡ false = le-ltb w who (let g = h.1 in omega (arith, g)) in
        let le : nat_lt w (who + 1) ≡ true = lt-ltb w (who + 1) (let g = h.1 in omega (arith, g)) in
        ap (λ y. (nat_lt w who && keeps_for d w q) || (y && (w == who))) k ∙ ap (λ y. (nat_lt w who && keeps_for d w q) || (keeps_for d w q && y)) h.0 ∙ here (nat_lt w who) (keeps_for d w q) lt ∙ ap (λ y. y && keeps_for d w q) (sym le)
    by w q (inr h) = ap (λ y. (nat_lt w who && keeps_for d w q) || (list_any (same_name q) desk.kept && y)) h.0 ∙ there (nat_lt w who && keeps_for d w q) (list_any (same_name q) desk.kept) ∙ ap (λ y. y && keeps_for d w q) (more w h.1)

pub pins_callers : (d : DesksState) (i : ℕ) (c e : Resident) (a b : Paged) → AreDesksSound d → 17 ≤ i → PinsKept (λ w q. nat_lt w i && keeps_for d w q) c e a b → PinsKept (keeps_for d) c e a b
pins_callers d i c e a b sound le m = pins_as (λ w q. nat_lt w i && keeps_for d w q) (keeps_for d) c e a b (λ w q. by w q (desk_at d w) refl) m where
  by : (w : ℕ) (q : Name) (o : Option DeskState) → desk_at d w ≡ o → (nat_lt w i && option_map_or (λ (x : DeskState). keeps_name x q) o false) ≡ option_map_or (λ (x : DeskState). keeps_name x q) o false
  by w q None at = none (nat_lt w i) where
    none : (b : Bool) → (b && false) ≡ false
    none true = refl
    none false = refl
  by w q (Some desk) at = let k = slice_get_within d.desks w desk at in let s = sound.seats in ap (λ y. y && keeps_name desk q) (lt-ltb w i (omega (arith, k, s, le)))
