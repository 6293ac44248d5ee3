use Rattle.std.proofs.Common.{rules, arith}
use Rattle.entries.proofs.Listed.{from_there, from_past}
use Rattle.entries.proofs.iter.IterIterator.next.Goals as goal

pub returns-in_err-i-clause-steps : goal.returns-in_err-i-clause-steps
returns-in_err-i-clause-steps c =
    let it = c.args.self.now in
    let none = from_past it.entries.bytes.now it.entries.base it.numbers.start (omega (arith, it.end, c.in_err-i.ensures.steps.1.0)) in
    search rules

pub returns-clause-steps : goal.returns-clause-steps
returns-clause-steps c =
    let it = c.args.self.now in
    let there = from_there it.entries.bytes.now it.entries.base it.numbers.start (omega (arith, it.end, c.in_ok-i.ensures.steps.1.0)) in
    search rules

pub returns-clause-goes : goal.returns-clause-goes
returns-clause-goes c =
    let it = c.args.self.now in
    let there = from_there it.entries.bytes.now it.entries.base it.numbers.start (omega (arith, it.end, c.in_ok-i.ensures.steps.1.0)) in
    search rules
