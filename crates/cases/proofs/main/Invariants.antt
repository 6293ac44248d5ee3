use Rattle.std.proofs.Common.{◌≤◌}
use Rattle.cases.proofs.main.Given as goal

-- the digits so far lie within their room
abbrev pub invariant-loop-line : goal.invariant-loop-line
invariant-loop-line l = l.count ≤ 65536
