-- `psch::put_schema` meets its contract. Assumes nothing.
use Rattle.psch.proofs.Schemas.{used_put}
use Rattle.psch.proofs.put_schema.Goals as goal

pub returns : goal.returns
returns c =
    let a = c.args.area.now in
    let r = c.put-mid in
    let q = c.put-end in
    used_put c.args.schema.now a.round a.progress a.bytes.now r.result q.result c.args.out.now r.new.out q.new.out c.head.new.out c.write_u32.new.s
    c.requires.size.0 (rw (c.of.ensures.kind, c.of.ensures.names.names) at r.ensures) (rw (c.of-2.ensures.kind, c.of-2.ensures.names.names) at q.ensures) c.head.ensures c.write_u32.ensures
