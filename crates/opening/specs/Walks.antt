-- A walk over the nodes that stand side by side.
use Rattle.std.specs.Prelude.{◌≡◌, ◌+◌, ◌-◌, ◌<◌, true, false, Option, Some, None, Ok, Err, Result}
use Rattle.layout.specs.declared.fault.Refusal.{Refusal}
use Rattle.layout.specs.declared.fault.Refusal.TheVariants.{Nesting}
use Rattle.layout.specs.declared.node.Node.{Node}
use Rattle.layout.specs.Nodes.{nodes_of, node_at}
use Rattle.layout.specs.Tests.{spans_within}
use Rattle.opening.specs.declared.children.Children.{Children}

-- the node where the walk stands
abbrev pub standing_at : Children → Node
standing_at s = node_at (nodes_of s.nodes.now) s.next

-- a step over a tree
pub record Passes (s : Children) (child : Node) (t : Children) : Type 0 where
  pub is : child ≡ standing_at s
  pub before : s.next < s.end
  pub fits : spans_within child (s.end - s.next) ≡ true
  pub next : t.next ≡ s.next + child.span
  pub end : t.end ≡ s.end
  pub nodes : t.nodes.now ≡ s.nodes.now

-- a tree that does not fit, after which nothing comes
pub record BreaksOff (s : Children) (q : Refusal) (t : Children) : Type 0 where
  pub refusal : q ≡ Nesting
  pub before : s.next < s.end
  pub unfit : spans_within (standing_at s) (s.end - s.next) ≡ false
  pub last : t.next ≡ t.end

abbrev pub Gives : Children → Option (Result Node Refusal) → Children → Type 0
Gives s None t = s.next ≡ s.end
Gives s (Some (Err q)) t = BreaksOff s q t
Gives s (Some (Ok child)) t = Passes s child t
