use Rattle.std.proofs.Common.{arith}
use Rattle.entries.proofs.Listed.{entry_inside}
use Rattle.entries.proofs.Entries.present.Goals as goal

pub slice_bounds-bytes-end : goal.slice_bounds-bytes-end
slice_bounds-bytes-end c = omega (arith, entry_inside c.args.self.bytes.now c.args.self.base c.args.i c.requires, c.from.ensures, c.from-2.ensures)
