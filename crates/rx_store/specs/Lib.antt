pub mod RxStore
