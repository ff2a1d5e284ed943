use Rattle.std.proofs.Common.{◌≡◌, ◌+◌, drop}
use Rattle.std.specs.List.{prefix_len}
use Rattle.line_stream.specs.Feeds.{is_no_feed}
use Rattle.line_stream.proofs.ahead.before_feed.Given as goal

abbrev pub invariant-loop-i : goal.invariant-loop-i
invariant-loop-i l = prefix_len is_no_feed l.bytes ≡ l.i + prefix_len is_no_feed (drop l.i l.bytes)
