use Rattle.std.proofs.Common.{◌∙◌, arith}
use Rattle.iris_blocks.proofs.Grouping.{joins_second, joins_carried}
use Rattle.iris_blocks.proofs.groups.to_sent.Goals as goal

pub returns-clause-grouped : goal.returns-clause-grouped
returns-clause-grouped c =
    let p = c.to_loose-passed in let j = c.join-at in
    let g = c.requires.grouped in
    let two = g.second in let w = c.requires.within in let b = c.requires.behind in
    let last = p.ensures.last in let n = p.ensures.count in let d = p.ensures.dirty in let l = p.ensures.loose in
    joins_second p.new.pages.entries j.new.pages.entries p.new.ends.dirty p.result j.new.end j.result (omega (arith, last, n, w, b)) (omega (arith, last, d, two)) j.ensures.joins p.new.ends.waiting p.new.ends.loose (omega (arith, last, l)) p.ensures.grouped

pub returns-clause-carried : goal.returns-clause-carried
returns-clause-carried c =
    let p = c.to_loose-passed in let j = c.join-at in
    let g = c.requires.grouped in
    let two = g.second in let w = c.requires.within in let b = c.requires.behind in
    let last = p.ensures.last in let n = p.ensures.count in let d = p.ensures.dirty in
    joins_carried p.new.pages.entries j.new.pages.entries p.new.ends.dirty p.result j.new.end j.result (omega (arith, last, n, w, b)) (omega (arith, last, d, two)) j.ensures.joins ∙ p.ensures.carried
