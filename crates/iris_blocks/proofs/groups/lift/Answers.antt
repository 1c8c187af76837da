use Rattle.std.proofs.Common.{◌≤◌, ◌∙◌, length, arith}
use Rattle.iris_blocks.proofs.Grouping.{leaves_length, leaves_place, leaves_carried, leaves_first, leaves_second, leaves_third}
use Rattle.iris_blocks.proofs.groups.lift.Goals as goal

pub returns-clause-grouped : goal.returns-clause-grouped
returns-clause-grouped c =
    let es = c.args.pages.now.entries in
    let ends = c.args.ends.now in
    let g = c.requires.grouped in
    let one = g.first in let two = g.second in let three = g.third in
    let fs = c.leave-first.new.pages.entries in
    let hs = c.leave-second.new.pages.entries in
    let a = c.leave-first in let b = c.leave-second in let d = c.leave-third in
    let some : ends.waiting ≤ length es = omega (arith, one, two, three) in
    let p = leaves_place es fs ends.waiting c.args.i a.new.end a.result c.requires.within some a.ensures.leaves in
    let n = leaves_length es fs ends.waiting c.args.i a.new.end a.result c.requires.within some a.ensures.leaves in
    let first = leaves_first es fs ends.waiting c.args.i a.new.end a.result c.requires.within some a.ensures.leaves ends.dirty ends.loose g in
    let more : ends.dirty ≤ length fs = omega (arith, two, three, n) in
    let q = leaves_place fs hs ends.dirty a.result b.new.end b.result p.1 more b.ensures.leaves in
    let m = leaves_length fs hs ends.dirty a.result b.new.end b.result p.1 more b.ensures.leaves in
    let second = leaves_second fs hs ends.dirty a.result b.new.end b.result p.1 more b.ensures.leaves a.new.end ends.loose p.0 first in
    leaves_third hs d.new.pages.entries ends.loose b.result d.new.end d.result q.1 (omega (arith, three, n, m)) d.ensures.leaves a.new.end b.new.end q.0 second.0

pub returns-clause-carried : goal.returns-clause-carried
returns-clause-carried c =
    let es = c.args.pages.now.entries in
    let ends = c.args.ends.now in
    let g = c.requires.grouped in
    let one = g.first in let two = g.second in let three = g.third in
    let fs = c.leave-first.new.pages.entries in
    let hs = c.leave-second.new.pages.entries in
    let a = c.leave-first in let b = c.leave-second in let d = c.leave-third in
    let some : ends.waiting ≤ length es = omega (arith, one, two, three) in
    let p = leaves_place es fs ends.waiting c.args.i a.new.end a.result c.requires.within some a.ensures.leaves in
    let n = leaves_length es fs ends.waiting c.args.i a.new.end a.result c.requires.within some a.ensures.leaves in
    let more : ends.dirty ≤ length fs = omega (arith, two, three, n) in
    let q = leaves_place fs hs ends.dirty a.result b.new.end b.result p.1 more b.ensures.leaves in
    let m = leaves_length fs hs ends.dirty a.result b.new.end b.result p.1 more b.ensures.leaves in
    leaves_carried hs d.new.pages.entries ends.loose b.result d.new.end d.result q.1 (omega (arith, three, n, m)) d.ensures.leaves
    ∙ leaves_carried fs hs ends.dirty a.result b.new.end b.result p.1 more b.ensures.leaves
    ∙ leaves_carried es fs ends.waiting c.args.i a.new.end a.result c.requires.within some a.ensures.leaves
