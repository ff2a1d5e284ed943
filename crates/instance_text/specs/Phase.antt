-- How far the lines of an instance text were read.
use Rattle.std.specs.Prelude.{Bool}
use Rattle.siting_definitions.specs.declared.Kind.{Kind}

pub data Phase : Type 0 where
  -- before the header
  Start : Phase
  -- after a header, by which points may have cutoffs or not
  Body : Bool → Phase
  -- after the end of an instance of this kind
  Ended : Kind → Phase
