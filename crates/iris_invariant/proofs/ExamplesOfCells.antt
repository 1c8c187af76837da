-- Cells of pages, what a draft leaves of one, and how many names are marked, worked out by hand.
use Rattle.std.proofs.Common.{◌≡◌, inl, [], ◌∷◌, true, false, Some, None, refl, sym, ap, arith}
use Rattle.iris_blocks.specs.declared.held.PageHeld.{PageHeld}
use Rattle.iris_blocks.specs.Held.{arrived_page, renewed, begun_page, newcomer_page}
use Rattle.iris_name.specs.declared.name.Name.{Name}
use Rattle.iris_name.specs.declared.name.Name.TheVariants.{Block}
use Rattle.iris_invariant.specs.Agrees.{Out}
use Rattle.iris_invariant.specs.Bounds.{AtMost}
use Rattle.iris_invariant.specs.CellLaws.{LeftPage}
use Rattle.iris_invariant.specs.Cells.{cell_of_page, redoomed, page_touched, touched_if, TiedPage, has_pin}
use Rattle.iris_invariant.proofs.ExampleCounter.{block, away, differ}
use Rattle.iris_invariant.proofs.ExamplesOfEvents.{putting}

abbrev page : PageHeld
page = newcomer_page 1 [] 3

-- a page that was fetched is resident and counts as settled; where none is held, neither
fetched_cell : cell_of_page (Some page) false None ≡ record { resident = true; dirty = false; doomed = false; settled = true; out = None }
fetched_cell = refl

absent_cell : cell_of_page None false None ≡ away
absent_cell = refl

-- what went is doomed, what came isn't any more, and what stayed is as it was
went : redoomed (Some page) None false ≡ true
went = refl

came : redoomed None (Some page) true ≡ false
came = refl

stayed : redoomed (Some page) (Some page) true ≡ true
stayed = refl

-- a page that is set anew while its put is out is touched, and so is what is out; one for which nothing is out isn't
touched_by_a_write : page_touched (Some (begun_page 0 page)) (Some (renewed 2 [] (begun_page 0 page))) ≡ true
touched_by_a_write = refl

nothing_out : page_touched (Some page) (Some (renewed 2 [] page)) ≡ false
nothing_out = refl

untouched_while_out : TiedPage (Some (renewed 2 [] (begun_page 0 page))) (Some putting) → ⊥
untouched_while_out t = differ (sym (t.touched _ _ refl refl refl))

tied_when_touched : TiedPage (Some (renewed 2 [] (begun_page 0 page))) (Some (touched_if true putting))
tied_when_touched = record { touched = λ g o e f i. by o f; unknown = λ g o e f i. by o f } where
  by : (o : Out) → Some (touched_if true putting) ≡ Some o → o.touched ≡ true
  by o f = let i : touched_if true putting ≡ o = cc in ap (λ (z : Out). z.touched) (sym i)

-- a page that came is as it came, and stands for something else; that it came, and stands for the same, is false
left_new : LeftPage ⊥ None (Some (arrived_page 2 []))
left_new = (λ z. z, refl)

left_new_same : LeftPage (Unit {0}) None (Some (arrived_page 2 [])) → ⊥
left_new_same h = h.0 tt

left_as_it_was : LeftPage (Unit {0}) (Some page) (Some page)
left_as_it_was = inl (tt, refl)

-- caller 3's pin, and no other's
pin_of_three : (has_pin 3 page.pins ≡ true) × (has_pin 2 page.pins ≡ false) × (has_pin 4 page.pins ≡ false)
pin_of_three = (refl, refl, refl)

-- no more than two of two names are distinct, and not at most one
abbrev other : Name
other = Block (record { 0 = 2 }) 1

two_names : AtMost 1 (λ n. Unit {0}) → ⊥
two_names h = let le = h (block ∷ other ∷ []) (tt, refl, (tt, refl, tt)) in absurd (omega (arith, le))

no_name : AtMost 0 (λ n. ⊥)
no_name [] h = omega arith
no_name (n ∷ ns) h = absurd h.0
