-- Nodes of the same fields are one node: that a head is one has a single proof.
use Rattle.std.proofs.Common.{◌≡◌, ℕ, List}
use Rattle.std.proofs.Math.Path.{PathP, to_path_p}
use Rattle.std.proofs.Props.{props}
use Rattle.cga_order.specs.Head.{IsHead}
use Rattle.cga_forest.specs.declared.node.Node.{Node}

IsHead-prop : (line : List ℕ) (head : ℕ) → IsProp (IsHead line head)
IsHead-prop line head = hlevel props

pub same_node : (a b : Node) → a.shape ≡ b.shape → a.kind ≡ b.kind → a.priority ≡ b.priority → a.head ≡ b.head
    → a.answers ≡ b.answers → a.asks ≡ b.asks → a.line ≡ b.line → a ≡ b
same_node a b shape kind priority head answers asks line =
    let headed : PathP (λ i. IsHead (line i) (head i)) a.headed b.headed = to_path_p (λ i. IsHead (line i) (head i)) (IsHead-prop b.line b.head _ b.headed) in
    λ i. record { shape = shape i; kind = kind i; priority = priority i; head = head i; answers = answers i; asks = asks i; line = line i; headed = headed i }
