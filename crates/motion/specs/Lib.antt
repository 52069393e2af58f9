-- Documents 01 and 02: percents and positions, K, Low to High, one move, moves toward one target, and the motor.
pub mod Motion
pub mod Laws
pub mod Product
pub mod Approach
