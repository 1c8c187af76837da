use Rattle.std.proofs.Common.{subst}
use Rattle.iris_name.specs.declared.request.Request.TheVariants.{Mkdir, Create, Write, Read, Resize, Stat, List as ListNames, Rename}
use Rattle.iris_requests.specs.Served.{IsPlannable}
use Rattle.iris_requests.proofs.Dispatched.{leads_so, short_so, leads_by, short_by}
use Rattle.iris_requests.proofs.planning.plan_of.Goals as goal

pub returns-in-Mkdir-clause-leads : goal.returns-in-Mkdir-clause-leads
returns-in-Mkdir-clause-leads c = leads_by c.args.keys.now c.args.cache.now c.args.blocks.now c.args.counters c.plan_new.result c.args.request.now (Mkdir c.in-Mkdir.path) c.in-Mkdir.is c.plan_new.ensures.leads

pub returns-in-Mkdir-clause-short : goal.returns-in-Mkdir-clause-short
returns-in-Mkdir-clause-short c = short_by c.args.keys.now c.args.cache.now c.args.blocks.now c.args.counters c.plan_new.result c.args.request.now (Mkdir c.in-Mkdir.path) c.in-Mkdir.is c.plan_new.ensures.short

pub returns-in-Create-clause-leads : goal.returns-in-Create-clause-leads
returns-in-Create-clause-leads c = leads_by c.args.keys.now c.args.cache.now c.args.blocks.now c.args.counters c.plan_new-in-Create.result c.args.request.now (Create c.in-Create.path) c.in-Create.is c.plan_new-in-Create.ensures.leads

pub returns-in-Create-clause-short : goal.returns-in-Create-clause-short
returns-in-Create-clause-short c = short_by c.args.keys.now c.args.cache.now c.args.blocks.now c.args.counters c.plan_new-in-Create.result c.args.request.now (Create c.in-Create.path) c.in-Create.is c.plan_new-in-Create.ensures.short

pub returns-in-Write-clause-leads : goal.returns-in-Write-clause-leads
returns-in-Write-clause-leads c = leads_so c.args.keys.now c.args.cache.now c.args.blocks.now c.args.counters c.plan_write_at.result c.args.request.now (Write c.in-Write.path c.in-Write.offset c.in-Write.bytes) c.in-Write.is c.plan_write_at.ensures.leads

pub returns-in-Write-clause-short : goal.returns-in-Write-clause-short
returns-in-Write-clause-short c = short_so c.args.keys.now c.args.cache.now c.args.blocks.now c.args.counters c.plan_write_at.result c.args.request.now (Write c.in-Write.path c.in-Write.offset c.in-Write.bytes) c.in-Write.is c.plan_write_at.ensures.short

pub returns-in-Read-clause-leads : goal.returns-in-Read-clause-leads
returns-in-Read-clause-leads c = leads_so c.args.keys.now c.args.cache.now c.args.blocks.now c.args.counters c.plan_read_at.result c.args.request.now (Read c.in-Read.path c.in-Read.offset c.in-Read.length) c.in-Read.is c.plan_read_at.ensures.leads

pub returns-in-Read-clause-short : goal.returns-in-Read-clause-short
returns-in-Read-clause-short c = short_so c.args.keys.now c.args.cache.now c.args.blocks.now c.args.counters c.plan_read_at.result c.args.request.now (Read c.in-Read.path c.in-Read.offset c.in-Read.length) c.in-Read.is c.plan_read_at.ensures.short

pub returns-in-Resize-clause-leads : goal.returns-in-Resize-clause-leads
returns-in-Resize-clause-leads c = leads_so c.args.keys.now c.args.cache.now c.args.blocks.now c.args.counters c.plan_resize_at.result c.args.request.now (Resize c.in-Resize.path c.in-Resize.length) c.in-Resize.is c.plan_resize_at.ensures.leads

pub returns-in-Resize-clause-short : goal.returns-in-Resize-clause-short
returns-in-Resize-clause-short c = short_so c.args.keys.now c.args.cache.now c.args.blocks.now c.args.counters c.plan_resize_at.result c.args.request.now (Resize c.in-Resize.path c.in-Resize.length) c.in-Resize.is c.plan_resize_at.ensures.short

pub returns-in-Stat-clause-leads : goal.returns-in-Stat-clause-leads
returns-in-Stat-clause-leads c = leads_by c.args.keys.now c.args.cache.now c.args.blocks.now c.args.counters c.plan_stat_at.result c.args.request.now (Stat c.in-Stat.path) c.in-Stat.is c.plan_stat_at.ensures.leads

pub returns-in-Stat-clause-short : goal.returns-in-Stat-clause-short
returns-in-Stat-clause-short c = short_by c.args.keys.now c.args.cache.now c.args.blocks.now c.args.counters c.plan_stat_at.result c.args.request.now (Stat c.in-Stat.path) c.in-Stat.is c.plan_stat_at.ensures.short

pub returns-in-List-clause-leads : goal.returns-in-List-clause-leads
returns-in-List-clause-leads c = leads_by c.args.keys.now c.args.cache.now c.args.blocks.now c.args.counters c.plan_list_at.result c.args.request.now (ListNames c.in-List.path c.in-List.after) c.in-List.is c.plan_list_at.ensures.leads

pub returns-in-List-clause-short : goal.returns-in-List-clause-short
returns-in-List-clause-short c = short_by c.args.keys.now c.args.cache.now c.args.blocks.now c.args.counters c.plan_list_at.result c.args.request.now (ListNames c.in-List.path c.in-List.after) c.in-List.is c.plan_list_at.ensures.short

pub returns-in-Rename-clause-leads : goal.returns-in-Rename-clause-leads
returns-in-Rename-clause-leads c = leads_by c.args.keys.now c.args.cache.now c.args.blocks.now c.args.counters c.plan_move.result c.args.request.now (Rename c.in-Rename.from c.in-Rename.to) c.in-Rename.is c.plan_move.ensures.leads

pub returns-in-Rename-clause-short : goal.returns-in-Rename-clause-short
returns-in-Rename-clause-short c = short_by c.args.keys.now c.args.cache.now c.args.blocks.now c.args.counters c.plan_move.result c.args.request.now (Rename c.in-Rename.from c.in-Rename.to) c.in-Rename.is c.plan_move.ensures.short

pub plan_resize_at-requires : goal.plan_resize_at-requires
plan_resize_at-requires c = subst IsPlannable c.in-Resize.is c.requires
