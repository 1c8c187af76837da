use Rattle.std.proofs.Common.{◌∙◌, arith}
use Rattle.iris_blocks.proofs.Grouping.{joins_first, joins_carried}
use Rattle.iris_blocks.proofs.groups.to_waiting.Goals as goal

pub returns-clause-grouped : goal.returns-clause-grouped
returns-clause-grouped c =
    let p = c.to_sent-passed in let j = c.join-at in
    let g = c.requires.grouped in
    let one = g.first in let two = g.second in let w = c.requires.within in let b = c.requires.behind in
    let last = p.ensures.last in let n = p.ensures.count in let d = p.ensures.dirty in let v = p.ensures.waiting in
    joins_first p.new.pages.entries j.new.pages.entries p.new.ends.waiting p.result j.new.end j.result (omega (arith, last, n, w, b, two)) (omega (arith, last, v, one)) j.ensures.joins p.new.ends.dirty p.new.ends.loose (omega (arith, last, d)) p.ensures.grouped

pub returns-clause-carried : goal.returns-clause-carried
returns-clause-carried c =
    let p = c.to_sent-passed in let j = c.join-at in
    let g = c.requires.grouped in
    let one = g.first in let two = g.second in let w = c.requires.within in let b = c.requires.behind in
    let last = p.ensures.last in let n = p.ensures.count in let v = p.ensures.waiting in
    joins_carried p.new.pages.entries j.new.pages.entries p.new.ends.waiting p.result j.new.end j.result (omega (arith, last, n, w, b, two)) (omega (arith, last, v, one)) j.ensures.joins ∙ p.ensures.carried
