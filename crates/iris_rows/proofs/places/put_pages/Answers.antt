use Rattle.std.proofs.Common.{◌≡◌, ℕ, ◌+◌, List, ◌∷◌, ◌++◌, [], Some, sym, subst, length, set, arith}
use Rattle.iris_rows.specs.declared.places.Place.{Place}
use Rattle.iris_rows.proofs.KeptPlaces.{IsPut, put_step, put_end}
use Rattle.iris_rows.proofs.places.put_pages.Goals as goal

step : (first version : ℕ) (all : List (List ℕ)) (old : List Place) (items left : List (List ℕ)) (page : List ℕ) (now : List Place) (n : ℕ) → IsPut first version all old items now → items ≡ left ++ page ∷ [] → n ≡ length left
    → IsPut first version all old left (set now (first + n) (record { version = version; page = Some page }))
step first version all old items left page now n h e m = let P : List (List ℕ) → Type 0 = λ l. IsPut first version all old l now in let Q : ℕ → Type 0 = λ k. IsPut first version all old left (set now (first + k) (record { version = version; page = Some page })) in
    subst Q (sym m) (put_step first version all old left page now (subst P e h))

pub loop-page-preserved : goal.loop-page-preserved
loop-page-preserved c = step c.args.first c.args.version c.args.pages.items c.args.places.now c.loop-page.pages.items c.pop.new.self.items c.in-Some.page c.loop-page.places c.len.result
    c.loop-page.invariant c.in-Some.ensures.items (omega (arith, c.len.ensures, c.pop.new.self.ok.0))

pub loop-page-preserved-in-Some : goal.loop-page-preserved-in-Some
loop-page-preserved-in-Some c = step c.args.first c.args.version c.args.pages.items c.args.places.now c.loop-page.pages.items c.pop.new.self.items c.in-Some.page c.loop-page.places c.len.result
    c.loop-page.invariant c.in-Some.ensures.items (omega (arith, c.len.ensures, c.pop.new.self.ok.0))

pub returns : goal.returns
returns c = put_end c.args.first c.args.version c.args.pages.items c.args.places.now c.loop-page.pages.items c.loop-page.places c.loop-page.invariant (omega (arith, c.in_default.ensures.cases.0, c.loop-page.pages.ok.0))
