use Rattle.std.proofs.Common.{◌≡◌, sym, ◌∙◌, ap, subst, ◌++◌, ◌∷◌, [], List, ℕ, append_assoc}
use Rattle.std.proofs.lemmas.List.{append-nil}
use Rattle.iris_plain.specs.Pages.{IsPage}
use Rattle.iris_plain.specs.Steps.{has_entry_named}
use Rattle.iris_plain.specs.Entries.{kind_at}
use Rattle.iris_plain.proofs.PageLaws.{page_more, page_ends, page_full}
use Rattle.iris_plain.proofs.files.page.Goals as goal

pub returns-in-None : goal.returns-in-None
returns-in-None c = let P : List (List ℕ) → Type 0 = λ page. IsPage (has_entry_named (kind_at c.args.entries.now) c.args.names.now) 64 c.args.after.now page in
    subst P (append-nil c.loop-i.page) (c.loop-i.invariant [] (page_ends (has_entry_named (kind_at c.args.entries.now) c.args.names.now) c.loop-i._i _ c.loop-i-test.true c.in-None.ensures))

pub returns : goal.returns
returns c = let P : List (List ℕ) → Type 0 = λ page. IsPage (has_entry_named (kind_at c.args.entries.now) c.args.names.now) 64 c.args.after.now page in
    subst P (append-nil c.loop-i.page) (c.loop-i.invariant [] (page_full (has_entry_named (kind_at c.args.entries.now) c.args.names.now) c.loop-i._i _ c.loop-i-test.false))

pub loop-i-preserved : goal.loop-i-preserved
loop-i-preserved c = λ tail p. let P : List (List ℕ) → Type 0 = λ page. IsPage (has_entry_named (kind_at c.args.entries.now) c.args.names.now) 64 c.args.after.now page in
    let more : c.push.new.self ++ tail ≡ c.loop-i.page ++ (c.in-Some.name.now ∷ tail) =
    ap (λ page. page ++ tail) (c.in_ok-push-in-Some.ensures.ok ∙ ap (λ n. c.loop-i.page ++ n ∷ []) c.in_ok-copy-in-Some.ensures) ∙ append_assoc c.loop-i.page (c.in-Some.name.now ∷ []) tail in
    subst P (sym more) (c.loop-i.invariant (c.in-Some.name.now ∷ tail) (page_more (has_entry_named (kind_at c.args.entries.now) c.args.names.now) c.loop-i._i _ c.in-Some.name.now tail c.loop-i-test.true c.in-Some.ensures p))
