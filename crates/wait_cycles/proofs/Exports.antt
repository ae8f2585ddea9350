-- What proofs of other crates may cite. Each other module of this folder is private.
-- The first item of a list is a member.
pub use Rattle.wait_cycles.proofs.Lists.{member_here}
-- A waits-for edge stands in the list of pairs.
pub use Rattle.wait_cycles.proofs.Found.{pair_of}
-- A listed pair is a waits-for edge.
pub use Rattle.wait_cycles.proofs.Found.{waits_by_pair}
-- A cycle through a member may begin at that member.
pub use Rattle.wait_cycles.proofs.Agreement.{begun_there}
-- Cycles by numbers are cycles by names, and a victim by number is one by name.
pub use Rattle.wait_cycles.proofs.Agreement.{cycles_agree}
-- A cycle of names is one of their numbers.
pub use Rattle.wait_cycles.proofs.Agreement.{numbered_cycle}
-- The wait of a transaction is the one that is found.
pub use Rattle.wait_cycles.proofs.Listed.{found_of}
-- The wait that is found stands at a place.
pub use Rattle.wait_cycles.proofs.Listed.{place_of}
