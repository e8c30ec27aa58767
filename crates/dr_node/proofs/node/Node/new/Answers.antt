use Rattle.std.proofs.Common.{◌≡◌, ◌∙◌, ap, length, rules}
use Rattle.std.proofs.lemmas.List.FromFn.{length-map-range_with_len}
use Rattle.dr_node.specs.Seats.{new_seat}
use Rattle.dr_node.proofs.node.Node.new.Goals as goal

pub invariant_of-node : goal.invariant_of-node
invariant_of-node g c =
    record {
      of_schema = c.in_ok-schema.ensures ∙ c.schema.ensures.value ∙ c.requires.schema;
      of_seats = (let len : c.len.result ≡ length c.in_ok-seats.seats.items = search rules in len) ∙ ap length c.in_ok-seats.ensures ∙ length-map-range_with_len new_seat 0 g.B.Books.seats;
    }
