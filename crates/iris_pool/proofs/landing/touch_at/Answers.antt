use Rattle.std.proofs.Common.{◌≡◌, Some, arith, ap, sym, ◌∙◌, length, get_or, List, slice_get, map}
use Rattle.std.proofs.lemmas.List.{length-map}
use Rattle.iris_desk.specs.declared.out.Out.{Out}
use Rattle.iris_name.specs.declared.name.Name.{Name}
use Rattle.iris_pool.specs.Filing.{is_touched_there, names_at, names_on_desk}
use Rattle.iris_pool.proofs.FiledNames.{named_place, touches_at_desk, touches_to_more}
use Rattle.iris_pool.proofs.landing.touch_at.Goals as goal

pub loop-i-preserved : goal.loop-i-preserved
loop-i-preserved c =
    let who = c.args.who in
    let test = is_touched_there c.args.cache.now c.args.blocks.now in
    let ks = names_at c.args.desks.now who in
    let x = c.index-outs-i.result in
    let i = c.loop-i.i in
    let inv = c.loop-i.invariant in
    let names : map (λ (o : Out). o.name) c.outs.result.now ≡ ks = ap (λ (l : List Out). map (λ (o : Out). o.name) l) c.outs.ensures.outs ∙ sym (ap names_on_desk c.desk-in-loop-i.ensures) ∙ inv.names in
    let first : map (λ (o : Out). o.name) c.outs-i-end.result.now ≡ ks = ap (λ (l : List Out). map (λ (o : Out). o.name) l) c.outs-i-end.ensures.outs ∙ sym (ap names_on_desk c.desk.ensures) in
    let n = (get_or c.outs.result.now i x).name in
    let at : slice_get ks i ≡ Some n = named_place c.outs.result.now c.outs-i-end.result.now ks i x names first c.loop-i-test.true c.index-outs-i.is ∙ ap (λ (o : Out). Some o.name) c.index-outs-i.is in
    record {
      files = touches_to_more test ks i n c.is_touched.result _ _ _ at c.is_touched.ensures inv.files c.touch_where.ensures.files;
      names = c.touch_where.ensures.names who ∙ inv.names;
    }

pub returns : goal.returns
returns c =
    let ks = names_at c.args.desks.now c.args.who in
    let first : length ks ≡ length c.outs-i-end.result.now = sym (ap (λ (l : List Name). length l) (ap (λ (l : List Out). map (λ (o : Out). o.name) l) c.outs-i-end.ensures.outs ∙ sym (ap names_on_desk c.desk.ensures))) ∙ length-map c.outs-i-end.result.now (λ (o : Out). o.name) in
    let end = c.loop-i-test.false in
    touches_at_desk (is_touched_there c.args.cache.now c.args.blocks.now) c.args.who c.loop-i.i _ _ c.sound.ensures (omega (arith, first, end)) c.loop-i.invariant.files
