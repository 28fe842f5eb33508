pub mod CountLemmas
pub mod ExercisingLemmas
pub mod InOrderLemmas
pub mod StopLemmas
mod Worked
