use Rattle.std.proofs.Common.{rules, ◌≡◌, arith, ◌∙◌, ap, List, ◌++◌, Vec, Global, Bool, true, cond, refl, is_ok, None}
use Rattle.iris_plain.specs.Routes.{is_at_or_under, rest}
use Rattle.std.proofs.lemmas.Fn.{filter_same}
use Rattle.iris_plain.specs.declared.files.Entry.{Entry}
use Rattle.iris_plain.specs.Entries.{kind_at}
use Rattle.iris_plain.proofs.EntryLaws.{look_shifted, stays}
use Rattle.iris_plain.proofs.files.shift.Goals as goal

chosen : (b : Bool) (x y : List Entry) → b ≡ true → cond b x y ≡ x
chosen b x y e = rw e refl

pub returns-clause-ok : goal.returns-clause-ok
returns-clause-ok c = λ q.
    let fits : is_ok c.append.result ≡ true = c.append.ensures.succeeds (omega (arith, c.in_ok-reserve.ensures.ok, c.in_ok-reserve.ensures.len, c.retain.ensures.bound, c.len.ensures)) in
    let kept = filter_same _ (stays c.args.olds.now c.args.news.now) _ (λ x b f h. search rules) _ _ c.retain.ensures.filtered in
    ap (λ (v : Vec Entry Global). kind_at v.items q) c.swap.ensures.x_after
    ∙ ap (λ es. kind_at es q) (c.append.ensures.items ∙ chosen (is_ok c.append.result) _ _ fits ∙ ap (λ es. es ++ c.retain.new.self.items) c.in_ok-reserve.ensures.items ∙ ap (λ es. c.in_ok-fresh.fresh.items ++ es) kept)
    ∙ look_shifted c.args.olds.now c.args.news.now c.args.entries.now.items c.in_ok-fresh.fresh.items q (λ r. c.in_ok-fresh.ensures r ∙ ap (λ es. cond (is_at_or_under c.args.news.now r) (kind_at es (c.args.olds.now ++ rest c.args.news.now r)) None) c.as_slice.ensures.value)
