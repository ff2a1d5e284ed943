use Rattle.line_stream.proofs.AheadLemmas.{front_line, front_feed, front_within, front_all}
use Rattle.line_stream.proofs.ahead.front_of_line.Goals as goal

pub returns-clause-line : goal.returns-clause-line
returns-clause-line c = front_line c.args.bytes.now c.min.result _ c.before_feed-count.ensures

pub returns-clause-feed : goal.returns-clause-feed
returns-clause-feed c h = front_feed c.args.bytes.now c.min.result _ c.before_feed-count.ensures h

pub returns-clause-within : goal.returns-clause-within
returns-clause-within c = front_within c.args.bytes.now c.args.most c.min.result _ c.before_feed-count.ensures c.min.ensures

pub returns-clause-all : goal.returns-clause-all
returns-clause-all c h = front_all c.args.bytes.now c.args.most c.min.result _ c.before_feed-count.ensures c.min.ensures h
