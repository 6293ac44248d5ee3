use Rattle.std.proofs.Common.{take}
use Rattle.std.specs.Fmt.{IsPlainFormatter, HasWritten}
use Rattle.line.specs.Letters.{letters}
use Rattle.line.specs.Lines.{actions_of}
use Rattle.line.proofs.TraceDisplay.fmt.Given as goal

-- the letters of the actions so far are written
abbrev pub invariant-loop-action : goal.invariant-loop-action
invariant-loop-action g l = IsPlainFormatter l.initial.f → HasWritten g.W.Write.write_str_gives l.initial.f (letters (take l.action-index (actions_of l.self))) l.f
