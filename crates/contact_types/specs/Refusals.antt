-- The refusals: each one's number, and its message. Definitions only.
use Rattle.std.specs.Prelude.{ℕ, List, [], ◌∷◌}
use Rattle.contact_types.specs.declared.refusal.Refusal.{Refusal}
use Rattle.contact_types.specs.declared.refusal.Refusal.TheVariants.{WrongLength, OutOfRange, SameCollider, PairExists, GraphFull, ProposalTooLarge, InvalidShares, TooFewPoints, NoContact}

abbrev pub number_of : Refusal → ℕ
number_of WrongLength = 1
number_of OutOfRange = 2
number_of SameCollider = 3
number_of PairExists = 4
number_of GraphFull = 5
number_of ProposalTooLarge = 6
number_of InvalidShares = 7
number_of TooFewPoints = 8
number_of NoContact = 9

-- the bytes of its message
abbrev pub message_of : Refusal → List ℕ
-- wrong capacity or buffer length
message_of WrongLength = 119 ∷ 114 ∷ 111 ∷ 110 ∷ 103 ∷ 32 ∷ 99 ∷ 97 ∷ 112 ∷ 97 ∷ 99 ∷ 105 ∷ 116 ∷ 121 ∷ 32 ∷ 111 ∷ 114 ∷ 32 ∷ 98 ∷ 117 ∷ 102 ∷ 102 ∷ 101 ∷ 114 ∷ 32 ∷ 108 ∷ 101 ∷ 110 ∷ 103 ∷ 116 ∷ 104 ∷ []
-- number out of range
message_of OutOfRange = 110 ∷ 117 ∷ 109 ∷ 98 ∷ 101 ∷ 114 ∷ 32 ∷ 111 ∷ 117 ∷ 116 ∷ 32 ∷ 111 ∷ 102 ∷ 32 ∷ 114 ∷ 97 ∷ 110 ∷ 103 ∷ 101 ∷ []
-- both sides are one collider
message_of SameCollider = 98 ∷ 111 ∷ 116 ∷ 104 ∷ 32 ∷ 115 ∷ 105 ∷ 100 ∷ 101 ∷ 115 ∷ 32 ∷ 97 ∷ 114 ∷ 101 ∷ 32 ∷ 111 ∷ 110 ∷ 101 ∷ 32 ∷ 99 ∷ 111 ∷ 108 ∷ 108 ∷ 105 ∷ 100 ∷ 101 ∷ 114 ∷ []
-- the pair stands already
message_of PairExists = 116 ∷ 104 ∷ 101 ∷ 32 ∷ 112 ∷ 97 ∷ 105 ∷ 114 ∷ 32 ∷ 115 ∷ 116 ∷ 97 ∷ 110 ∷ 100 ∷ 115 ∷ 32 ∷ 97 ∷ 108 ∷ 114 ∷ 101 ∷ 97 ∷ 100 ∷ 121 ∷ []
-- the graph is full
message_of GraphFull = 116 ∷ 104 ∷ 101 ∷ 32 ∷ 103 ∷ 114 ∷ 97 ∷ 112 ∷ 104 ∷ 32 ∷ 105 ∷ 115 ∷ 32 ∷ 102 ∷ 117 ∷ 108 ∷ 108 ∷ []
-- too many manifolds or points proposed
message_of ProposalTooLarge = 116 ∷ 111 ∷ 111 ∷ 32 ∷ 109 ∷ 97 ∷ 110 ∷ 121 ∷ 32 ∷ 109 ∷ 97 ∷ 110 ∷ 105 ∷ 102 ∷ 111 ∷ 108 ∷ 100 ∷ 115 ∷ 32 ∷ 111 ∷ 114 ∷ 32 ∷ 112 ∷ 111 ∷ 105 ∷ 110 ∷ 116 ∷ 115 ∷ 32 ∷ 112 ∷ 114 ∷ 111 ∷ 112 ∷ 111 ∷ 115 ∷ 101 ∷ 100 ∷ []
-- the shares do not list each active pair once
message_of InvalidShares = 116 ∷ 104 ∷ 101 ∷ 32 ∷ 115 ∷ 104 ∷ 97 ∷ 114 ∷ 101 ∷ 115 ∷ 32 ∷ 100 ∷ 111 ∷ 32 ∷ 110 ∷ 111 ∷ 116 ∷ 32 ∷ 108 ∷ 105 ∷ 115 ∷ 116 ∷ 32 ∷ 101 ∷ 97 ∷ 99 ∷ 104 ∷ 32 ∷ 97 ∷ 99 ∷ 116 ∷ 105 ∷ 118 ∷ 101 ∷ 32 ∷ 112 ∷ 97 ∷ 105 ∷ 114 ∷ 32 ∷ 111 ∷ 110 ∷ 99 ∷ 101 ∷ []
-- fewer than 5 points to prune
message_of TooFewPoints = 102 ∷ 101 ∷ 119 ∷ 101 ∷ 114 ∷ 32 ∷ 116 ∷ 104 ∷ 97 ∷ 110 ∷ 32 ∷ 53 ∷ 32 ∷ 112 ∷ 111 ∷ 105 ∷ 110 ∷ 116 ∷ 115 ∷ 32 ∷ 116 ∷ 111 ∷ 32 ∷ 112 ∷ 114 ∷ 117 ∷ 110 ∷ 101 ∷ []
-- no contact has this id
message_of NoContact = 110 ∷ 111 ∷ 32 ∷ 99 ∷ 111 ∷ 110 ∷ 116 ∷ 97 ∷ 99 ∷ 116 ∷ 32 ∷ 104 ∷ 97 ∷ 115 ∷ 32 ∷ 116 ∷ 104 ∷ 105 ∷ 115 ∷ 32 ∷ 105 ∷ 100 ∷ []
