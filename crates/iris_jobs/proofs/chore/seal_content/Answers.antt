use Rattle.std.proofs.Common.{rules, ◌≡◌, ℕ, length, take, List, Some, sym, ap, ◌∙◌, subst}
use Rattle.iris_desk.specs.declared.out.Record.TheVariants as Record
use Rattle.iris_jobs.specs.Chores.{HasRoom, record_in}
use Rattle.iris_jobs.proofs.Alike.{block_bytes}
use Rattle.iris_jobs.proofs.Fronts.{front_of_record, front_length}
use Rattle.iris_jobs.proofs.chore.seal_content.Goals as goal

pub returns-in-Block-clause-record_ : goal.returns-in-Block-clause-record_
returns-in-Block-clause-record_ c =
    let room = subst HasRoom c.in-Page.is c.requires.room in
    ap (Record.Page c.in-Page.version) (ap (take 4096) c.tagged.ensures.bytes ∙ front_of_record _ _ _ _ _ (front_length c.in-Page.bytes.items room)) ∙ ap record_in (sym c.in-Page.is)

pub returns-in-Block-clause-bytes : goal.returns-in-Block-clause-bytes
returns-in-Block-clause-bytes c =
    let room = subst HasRoom c.in-Page.is c.requires.room in
    block_bytes _ _ _ _ _ _ _ c.in-Block.is (front_length c.in-Page.bytes.items room) c.tagged.ensures.bytes c.tagged.ensures.size
