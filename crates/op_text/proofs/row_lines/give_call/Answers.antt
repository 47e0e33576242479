use Rattle.op_text.proofs.row_lines.give_call.Goals as goal

pub returns-in-AddVertex : goal.returns-in-AddVertex
returns-in-AddVertex g c = rw c.in-AddVertex.is c.give_fields.ensures

pub returns-in-RemoveVertex : goal.returns-in-RemoveVertex
returns-in-RemoveVertex g c = rw c.in-RemoveVertex.is c.give_fields-in-RemoveVertex.ensures

pub returns-in-HasVertex : goal.returns-in-HasVertex
returns-in-HasVertex g c = rw c.in-HasVertex.is c.give_fields-in-HasVertex.ensures

pub returns-in-RemoveEdge : goal.returns-in-RemoveEdge
returns-in-RemoveEdge g c = rw c.in-RemoveEdge.is c.give_fields-in-RemoveEdge.ensures
