-- The rules of the node that is checked.
use Rattle.std.specs.Prelude.{Bool, List, Some}
use Rattle.layout.specs.declared.fault.Refusal.{Refusal}
use Rattle.layout.specs.declared.node.Node.{Node}
use Rattle.layout.specs.Nodes.{nodes_of}
use Rattle.layout.specs.Tests.{shaped_as, holds}
use Rattle.opening.specs.declared.subject.Subject.{Subject}

abbrev pub table_of : Subject → List Node
table_of s = nodes_of s.nodes.now

-- the rule that a refusal speaks of holds
abbrev pub kept : Refusal → Subject → Bool
kept q s = holds q (table_of s) s.bytes.now s.index

-- its children fill its span, as many as the kind has
abbrev pub is_shaped : Subject → Bool
is_shaped s = shaped_as (Some s.kind) (table_of s) s.index
